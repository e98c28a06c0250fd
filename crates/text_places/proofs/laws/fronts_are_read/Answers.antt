use Rattle.text_places.proofs.Fronts.{front_read, front_alone}
use Rattle.text_places.proofs.laws.fronts_are_read.Goals as goal

pub returns : goal.returns
returns c = record { alone = front_alone; with_another = front_read }
