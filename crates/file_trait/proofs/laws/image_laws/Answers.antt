use Rattle.file_trait.proofs.Images.{reads_image, handed_image}
use Rattle.file_trait.proofs.Changes.{sync_only, sync_adds_none, sync_failed_adds_none, sync_dir_only, sync_dir_adds_none, sync_dir_settles, old_or_new, file_undone, names_undone}
use Rattle.file_trait.proofs.Prefixes.{prefix_image}
use Rattle.file_trait.proofs.laws.image_laws.Goals as goal

pub returns-clause-reads : goal.returns-clause-reads
returns-clause-reads c = reads_image

pub returns-clause-handed : goal.returns-clause-handed
returns-clause-handed c = handed_image

pub returns-clause-sync : goal.returns-clause-sync
returns-clause-sync c = sync_only

pub returns-clause-sync_adds : goal.returns-clause-sync_adds
returns-clause-sync_adds c = sync_adds_none

pub returns-clause-sync_dir : goal.returns-clause-sync_dir
returns-clause-sync_dir c = sync_dir_only

pub returns-clause-sync_dir_adds : goal.returns-clause-sync_dir_adds
returns-clause-sync_dir_adds c = sync_dir_adds_none

pub returns-clause-settles : goal.returns-clause-settles
returns-clause-settles c = sync_dir_settles

pub returns-clause-file : goal.returns-clause-file
returns-clause-file c = λ past name op i bytes left. left

pub returns-clause-names : goal.returns-clause-names
returns-clause-names c = old_or_new

pub returns-clause-file_undone : goal.returns-clause-file_undone
returns-clause-file_undone c = file_undone

pub returns-clause-names_undone : goal.returns-clause-names_undone
returns-clause-names_undone c = names_undone

pub returns-clause-sync_failed_adds : goal.returns-clause-sync_failed_adds
returns-clause-sync_failed_adds c = sync_failed_adds_none

pub returns-clause-prefixes : goal.returns-clause-prefixes
returns-clause-prefixes c = prefix_image
