mod MovesFacts
