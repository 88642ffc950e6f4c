mod TimerFacts
