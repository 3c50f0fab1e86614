use Rattle.db_model.proofs.Settings.{no_longer_option}
use Rattle.db_model.proofs.setting.setting_of_parts.Goals as goal

pub returns-in_default : goal.returns-in_default
returns-in_default c = no_longer_option _ _ c.in_default.len_at_least
