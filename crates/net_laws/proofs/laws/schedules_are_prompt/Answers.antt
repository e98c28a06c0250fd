use Rattle.net_laws.proofs.PromptLemmas.{schedules_are_prompt}
use Rattle.net_laws.proofs.laws.schedules_are_prompt.Goals as goal

pub returns : goal.returns
returns c = schedules_are_prompt
