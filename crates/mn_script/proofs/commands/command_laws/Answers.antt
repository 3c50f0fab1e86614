use Rattle.mn_script.proofs.Asking.{asked_means, asked_only}
use Rattle.mn_script.proofs.commands.command_laws.Goals as goal

pub returns-clause-means : goal.returns-clause-means
returns-clause-means c = asked_means

pub returns-clause-only : goal.returns-clause-only
returns-clause-only c = asked_only
