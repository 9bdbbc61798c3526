-- What a capture comes to by the rule of a receiver is what it comes to by the history that it plays.
use Rattle.std.proofs.Common.{◌≡◌, ◌∙◌, ℕ, Option, Some, None, is_none, false, List, [], refl, sym, subst}
use Rattle.tesla_capture.specs.Capture.{Record}
use Rattle.tesla_capture.specs.Outline.{outline_of}
use Rattle.tesla_capture.specs.declared.record.RecordKind.{RecordKind}
use Rattle.tesla_fitting.specs.declared.config.Config.{Config}
use Rattle.tesla_replay.specs.Played.{played}
use Rattle.tesla_replay.specs.Records.{record_in, records_of}
use Rattle.tesla_replay.proofs.Playing.{played_all}
use Rattle.tesla_replay.proofs.Records.{records_more}
use Rattle.tesla_convert.specs.Meaning.{SaysSame}
use Rattle.tesla_run_replay.specs.Playing.{meaning_by, history_report, rule_of}
use Rattle.tesla_run_replay.specs.Replay.{meaning, text_by}
use Rattle.tesla_run_replay.proofs.Histories.{says_received}

-- with the end of a capture, what its takes give is all that is released
all_released : (cfg : Config) (fault : Option (ℕ × RecordKind)) (records : List Record) → records_of 0 (played cfg records (is_none fault)) ≡ text_by fault cfg (played cfg records (is_none fault))
all_released cfg None records = played_all cfg records
all_released cfg (Some fault) records = refl

says_released : (cfg : Config) → SaysSame (meaning_by false (rule_of cfg)) (meaning cfg)
says_released cfg =
    let it = says_received cfg [] (λ h e. record_in 0 e) history_report (records_of 0) refl (records_more 0) in
    record { comes = it.comes; makes = λ bytes. it.makes bytes ∙ all_released cfg (outline_of bytes).fault (outline_of bytes).records; so_far = it.so_far; unrefused = it.unrefused; may = it.may; wanting = it.wanting }

-- what is said by the rule of a receiver of such a configuration is said by its histories
pub says_same : (cfg other : Config) → other ≡ cfg → SaysSame (meaning_by false (rule_of other)) (meaning cfg)
says_same cfg other same = subst (λ (c : Config). SaysSame (meaning_by false (rule_of c)) (meaning cfg)) (sym same) (says_released cfg)
