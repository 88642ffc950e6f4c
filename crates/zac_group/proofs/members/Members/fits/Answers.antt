use Rattle.std.proofs.lemmas.Bool.{false≢true}
use Rattle.zac_group.proofs.MemberFacts.{fits_columns, fits_from, fits_rows, fits_zones}
use Rattle.zac_group.proofs.members.Members.fits.Goals as goal

pub returns : goal.returns
returns c =
    let m = c.args.self.now in (
      λ yes. fits_from c.args.card.now m c.args.route c.requires.members c.requires.route
          (c.has_zones_of.ensures.0 c.if-not-has_zones_of.false) (c.takes_column.ensures.0 c.if-not-takes_column.false) (c.takes_row.ensures.0 yes),
      λ fit. c.takes_row.ensures.1 (fits_rows c.args.card.now m c.args.route c.requires.members c.requires.route fit),
    )

pub returns-then-not-has_zones_of : goal.returns-then-not-has_zones_of
returns-then-not-has_zones_of c = (
  λ no. absurd (false≢true no),
  λ fit. let holds = c.has_zones_of.ensures.1 (fits_zones c.args.card.now c.args.self.now c.args.route c.requires.members c.requires.route fit) in
      let fails = c.if-not-has_zones_of.true in cc,
)

pub returns-then-not-takes_column : goal.returns-then-not-takes_column
returns-then-not-takes_column c = (
  λ no. absurd (false≢true no),
  λ fit. let holds = c.takes_column.ensures.1 (fits_columns c.args.card.now c.args.self.now c.args.route c.requires.members c.requires.route fit) in
      let fails = c.if-not-takes_column.true in cc,
)
