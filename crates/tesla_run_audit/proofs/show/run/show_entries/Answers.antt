use Rattle.tesla_run_audit.proofs.show.Settled.{printed_file, sound_for, sound_settled}
use Rattle.tesla_run_audit.proofs.show.run.show_entries.Goals as goal

pub settle-requires : goal.settle-requires
settle-requires g c = record { sound = sound_for c.list_file-listed.result _ _ c.requires.sound c.list_file-listed.ensures.writes }

pub returns-clause-prints : goal.returns-clause-prints
returns-clause-prints g c =
    printed_file c.list_file-listed.result c.settle.result _ _ _ _ _ _ _ _ _ c.list_file-listed.ensures.shows c.list_file-listed.ensures.reads c.settle.ensures.settles

pub returns-clause-sound : goal.returns-clause-sound
returns-clause-sound g c = sound_settled c.list_file-listed.result c.settle.result _ _ _ _ c.settle.ensures.settles
