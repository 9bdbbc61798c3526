-- What a capture comes to by the rule of a receiver that accepts promised messages is what it comes to by the history that it plays.
use Rattle.std.proofs.Common.{◌≡◌, false, [], refl, sym, subst}
use Rattle.tesla_fitting.specs.declared.config.Config.{Config}
use Rattle.tesla_receiver.proofs.EachAfter.{each_after_more}
use Rattle.tesla_convert.specs.Meaning.{SaysSame}
use Rattle.tesla_run_replay.specs.Playing.{meaning_by}
use Rattle.tesla_run_replay.proofs.Histories.{says_received}
use Rattle.tesla_run_early.specs.Early.{meaning}
use Rattle.tesla_run_early.specs.Playing.{early_rule, early_text, promises}
use Rattle.tesla_run_early.specs.Records.{early_record_in, early_records_of}

-- what is said by the rule of such a configuration is said by the histories
pub says_same : (cfg other : Config) → other ≡ cfg → SaysSame (meaning_by false (early_rule other)) (meaning cfg)
says_same cfg other same =
    subst (λ (c : Config). SaysSame (meaning_by false (early_rule c)) (meaning cfg)) (sym same)
    (says_received cfg [] (early_record_in promises 0) early_text (early_records_of promises 0) refl (each_after_more (early_record_in promises 0)))
