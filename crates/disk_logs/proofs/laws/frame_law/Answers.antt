use Rattle.std.proofs.Common.{inl, inr, sym}
use Rattle.disk_logs.proofs.Drafts.{others_read}
use Rattle.disk_logs.proofs.Frames.{one_other, two_others, draft_other, sound_other}
use Rattle.disk_logs.proofs.laws.frame_law.Goals as goal

pub returns-clause-one : goal.returns-clause-one
returns-clause-one c = one_other

pub returns-clause-two : goal.returns-clause-two
returns-clause-two c = two_others

pub returns-clause-draft : goal.returns-clause-draft
returns-clause-draft c = draft_other

pub returns-clause-sound : goal.returns-clause-sound
returns-clause-sound c = sound_other

pub returns-clause-reads : goal.returns-clause-reads
returns-clause-reads c other name old new apart touches = others_read _ old new touches name (λ is. apart (sym is))

pub returns-clause-reads_two : goal.returns-clause-reads_two
returns-clause-reads_two c one other name old new first second touches =
    others_read _ old new touches name (λ is. elim is [ inl a ↦ first (sym a) | inr b ↦ second (sym b) ])
