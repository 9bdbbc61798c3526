-- What a capture comes to by the rule of a trace is what it comes to by the history that it plays.
use Rattle.std.proofs.Common.{◌≡◌, ◌∙◌, ℕ, false, List, [], ◌∷◌, ◌++◌, flat_map, refl, sym, ap, subst, append-nil}
use Rattle.std.proofs.lemmas.List.Concat.{flat_map-append}
use Rattle.tesla_fitting.specs.declared.config.Config.{Config}
use Rattle.tesla_receiver.specs.Entries.{Entry}
use Rattle.tesla_convert.specs.Meaning.{SaysSame}
use Rattle.tesla_trace.specs.Trace.{entry_text, trace_head}
use Rattle.tesla_run_replay.specs.Playing.{meaning_by, history_report}
use Rattle.tesla_run_replay.proofs.Histories.{says_received}
use Rattle.tesla_run_audit.specs.trace.Trace.{meaning, trace_rule}

-- one entry more
entries_more : (h : List Entry) (e : Entry) → flat_map entry_text (h ++ e ∷ []) ≡ flat_map entry_text h ++ entry_text e
entries_more h e = flat_map-append entry_text h (e ∷ []) ∙ ap (λ (t : List ℕ). flat_map entry_text h ++ t) (append-nil (entry_text e))

-- what is said by the rule of such a configuration is said by the histories
pub says_same : (cfg other : Config) → other ≡ cfg → SaysSame (meaning_by false (trace_rule other)) (meaning cfg)
says_same cfg other same =
    subst (λ (c : Config). SaysSame (meaning_by false (trace_rule c)) (meaning cfg)) (sym same) (says_received cfg (trace_head 1) (λ h e. entry_text e) history_report (flat_map entry_text) refl entries_more)
