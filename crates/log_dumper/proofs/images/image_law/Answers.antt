use Rattle.log_dumper.proofs.SaidImages.{image_said, image_cut}
use Rattle.log_dumper.proofs.Sayings.{recovered, step_recovered}
use Rattle.log_dumper.proofs.images.image_law.Goals as goal

pub returns-clause-says : goal.returns-clause-says
returns-clause-says c = image_said

pub returns-clause-cut : goal.returns-clause-cut
returns-clause-cut c = image_cut

pub returns-clause-recovers : goal.returns-clause-recovers
returns-clause-recovers c = recovered

pub returns-clause-moments : goal.returns-clause-moments
returns-clause-moments c = step_recovered
