use Rattle.global_follower.proofs.plays.play_construct.Goals as goal

pub returns-in-Com : goal.returns-in-Com
returns-in-Com c = rw (c.in-Com.is, ← c.of.ensures) c.play_sending.ensures

pub returns-in-Set : goal.returns-in-Set
returns-in-Set c = rw (c.in-Set.is, ← c.of-in-Set.ensures) c.play_setting.ensures
