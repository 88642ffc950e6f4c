use Rattle.zac_io.proofs.Growth.{Appends-nil, Appends-append, AppendsPrefix-append, AppendsPrefix-after}
use Rattle.zac_io.proofs.laws.writes_add_up.Goals as goal

pub returns : goal.returns
returns c = record {
  nothing = Appends-nil;
  both = Appends-append;
  front = AppendsPrefix-append;
  behind = AppendsPrefix-after;
}
