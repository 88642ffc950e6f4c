use Rattle.zac_aod.proofs.Advancing.{advances}
use Rattle.zac_aod.proofs.Sounding.{sound_job}
use Rattle.zac_aod.proofs.StageFacts.{at_crossings}
use Rattle.zac_aod.proofs.laws.jobs_are_sound.Goals as goal

pub returns-clause-sound : goal.returns-clause-sound
returns-clause-sound c = λ shifts aod g.
    let a = c.args.card.now in
    sound_job a shifts g aod (advances a c.card_laws.ensures shifts g aod) (λ stage row column in_rows in_columns. (at_crossings a shifts c.card_laws.ensures g stage row column in_rows in_columns).at_grids)

pub returns-clause-advances : goal.returns-clause-advances
returns-clause-advances c = λ shifts aod g. advances c.args.card.now c.card_laws.ensures shifts g aod
