-- Why workers came to no end, told from those of links and those of sinks.
use Rattle.std.proofs.Common.{◌≡◌, ◌∙◌, Bool, true, false, ◌||◌, List, [], ◌∷◌, map, refl, sym, ap}
use Rattle.std.specs.List.{list_any}
use Rattle.std.proofs.lemmas.List.Folds.{list_any-append}
use Rattle.tesla_shared.specs.declared.draining.SinkEnd.{SinkEnd}
use Rattle.tesla_shared.specs.declared.draining.SinkEnd.TheVariants as sink_ends
use Rattle.tesla_shared.specs.declared.ingesting.LinkEnd.{LinkEnd}
use Rattle.tesla_shared.specs.declared.ingesting.LinkEnd.TheVariants as link_ends
use Rattle.tesla_shared.specs.Yields.{Yield}
use Rattle.tesla_session.specs.Session.{LinkSeen, SinkSeen, Seen, SeenLink, SeenSink, link_failed, sink_failed, has_spent, ended_failed, ended_spent, drained_failed, drained_spent, is_link_end, is_sink_end, any_link_ended, any_sink_ended, stop_by, stop_of, workers_of}

or_none : (b : Bool) → (b || false) ≡ b
or_none true = refl
or_none false = refl

module _ {C V R : Type 0} where
  -- a test that asks for a link's end in one way, and holds of no sink
  of_links : (test : Seen C V R → Bool) (end : LinkEnd) → ((worker : LinkSeen C V R) → test (SeenLink worker) ≡ is_link_end worker.end end) → (links : List (LinkSeen C V R)) → list_any test (map SeenLink links) ≡ any_link_ended end links
  of_links test end same [] = refl
  of_links test end same (worker ∷ links) = ap (λ b. b || list_any test (map SeenLink links)) (same worker) ∙ ap (λ b. is_link_end worker.end end || b) (of_links test end same links)

  of_sinks : (test : Seen C V R → Bool) (end : SinkEnd) → ((worker : SinkSeen C V R) → test (SeenSink worker) ≡ is_sink_end worker.end end) → (sinks : List (SinkSeen C V R)) → list_any test (map SeenSink sinks) ≡ any_sink_ended end sinks
  of_sinks test end same [] = refl
  of_sinks test end same (worker ∷ sinks) = ap (λ b. b || list_any test (map SeenSink sinks)) (same worker) ∙ ap (λ b. is_sink_end worker.end end || b) (of_sinks test end same sinks)

  no_links : (links : List (LinkSeen C V R)) → list_any sink_failed (map SeenLink links) ≡ false
  no_links [] = refl
  no_links (worker ∷ links) = no_links links

  no_sinks : (sinks : List (SinkSeen C V R)) → list_any link_failed (map SeenSink sinks) ≡ false
  no_sinks [] = refl
  no_sinks (worker ∷ sinks) = no_sinks sinks

fails_link : (end : LinkEnd) → ended_failed end ≡ is_link_end end link_ends.Failed
fails_link link_ends.Ended = refl
fails_link link_ends.Failed = refl
fails_link link_ends.Spent = refl

spends_link : (end : LinkEnd) → ended_spent end ≡ is_link_end end link_ends.Spent
spends_link link_ends.Ended = refl
spends_link link_ends.Failed = refl
spends_link link_ends.Spent = refl

fails_sink : (end : SinkEnd) → drained_failed end ≡ is_sink_end end sink_ends.Failed
fails_sink sink_ends.Over = refl
fails_sink sink_ends.Failed = refl
fails_sink sink_ends.Spent = refl

spends_sink : (end : SinkEnd) → drained_spent end ≡ is_sink_end end sink_ends.Spent
spends_sink sink_ends.Over = refl
spends_sink sink_ends.Failed = refl
spends_sink sink_ends.Spent = refl

module _ {C V R : Type 0} where
  link_fails : (links : List (LinkSeen C V R)) (sinks : List (SinkSeen C V R)) → list_any link_failed (workers_of links sinks) ≡ any_link_ended link_ends.Failed links
  link_fails links sinks =
      list_any-append link_failed (map SeenLink links) (map SeenSink sinks) ∙ ap (λ b. list_any link_failed (map SeenLink links) || b) (no_sinks sinks)
      ∙ or_none (list_any link_failed (map SeenLink links)) ∙ of_links link_failed link_ends.Failed (λ worker. fails_link worker.end) links

  sink_fails : (links : List (LinkSeen C V R)) (sinks : List (SinkSeen C V R)) → list_any sink_failed (workers_of links sinks) ≡ any_sink_ended sink_ends.Failed sinks
  sink_fails links sinks =
      list_any-append sink_failed (map SeenLink links) (map SeenSink sinks) ∙ ap (λ b. b || list_any sink_failed (map SeenSink sinks)) (no_links links)
      ∙ of_sinks sink_failed sink_ends.Failed (λ worker. fails_sink worker.end) sinks

  spends : (links : List (LinkSeen C V R)) (sinks : List (SinkSeen C V R)) → list_any has_spent (workers_of links sinks) ≡ (any_link_ended link_ends.Spent links || any_sink_ended sink_ends.Spent sinks)
  spends links sinks =
      list_any-append has_spent (map SeenLink links) (map SeenSink sinks)
      ∙ ap (λ b. b || list_any has_spent (map SeenSink sinks)) (of_links has_spent link_ends.Spent (λ worker. spends_link worker.end) links)
      ∙ ap (λ b. any_link_ended link_ends.Spent links || b) (of_sinks has_spent sink_ends.Spent (λ worker. spends_sink worker.end) sinks)

  -- why the workers of these links and sinks came to no end
  pub stops_lists : (links : List (LinkSeen C V R)) (sinks : List (SinkSeen C V R)) → stop_by (any_link_ended link_ends.Failed links) (any_sink_ended sink_ends.Failed sinks) (any_link_ended link_ends.Spent links || any_sink_ended sink_ends.Spent sinks) ≡ stop_of (workers_of links sinks)
  stops_lists links sinks =
      ap (λ b. stop_by b (any_sink_ended sink_ends.Failed sinks) (any_link_ended link_ends.Spent links || any_sink_ended sink_ends.Spent sinks)) (sym (link_fails links sinks))
      ∙ ap (λ b. stop_by (list_any link_failed (workers_of links sinks)) b (any_link_ended link_ends.Spent links || any_sink_ended sink_ends.Spent sinks)) (sym (sink_fails links sinks))
      ∙ ap (λ b. stop_by (list_any link_failed (workers_of links sinks)) (list_any sink_failed (workers_of links sinks)) b) (sym (spends links sinks))
