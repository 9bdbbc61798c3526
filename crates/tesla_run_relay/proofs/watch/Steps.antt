-- The steps of a run, from what their calls ensure.
use Rattle.std.proofs.Common.{◌≡◌, ◌∙◌, inl, inr, ℕ, Bool, List, Option, Some, None, Result, Ok, Err, IfOk, OnErr, length, sym, subst}
use Rattle.std.specs.Prelude.{◌||◌}
use Rattle.std.specs.List.{list_any}
use Rattle.tesla_base.specs.declared.memory.NoMemory.{NoMemory}
use Rattle.tesla_desk.specs.Links.{datagrams}
use Rattle.tesla_desk.specs.Outside.{Told}
use Rattle.tesla_desk.specs.declared.link.Letter.{Letter}
use Rattle.tesla_front.specs.OutcomeView.{OutcomeView, Failed}
use Rattle.tesla_front.specs.declared.fault.Fault.TheVariants as faults
use Rattle.tesla_relay.proofs.Sized.{each_counted}
use Rattle.tesla_relay.specs.Posts.{PostSeen}
use Rattle.tesla_relay.specs.declared.relayed.PostCount.{PostCount}
use Rattle.tesla_relay.specs.declared.relayed.Relayed.{Relayed}
use Rattle.tesla_run_relay.specs.Lines.{has_failed, outcome_with}
use Rattle.tesla_run_relay.specs.Steps.{RelaysOpen}
use Rattle.tesla_run_relay.specs.watch.Steps.{EndsTold, OpensTold, RunsOpened}
use Rattle.tesla_run_relay.specs.watch.Watch.{unless_failed}

module _ (capacity : ℕ) (left later : Option (List Letter)) (fresh missed : ℕ) (name named : List ℕ) (olds news : List PostSeen) where
  -- there are as many counts as posts
  pub counted_open : (result : Result Relayed NoMemory) (number : ℕ) → RelaysOpen capacity left later fresh missed name named olds news result → number ≡ length olds → IfOk result (λ it. number ≡ length it.counts.items)
  counted_open (Ok it) number opens size = size ∙ sym (each_counted capacity (datagrams opens.relays.taken) olds news it.counts.items opens.relays.posts)
  counted_open (Err refusal) number opens size = tt

  module _ (status under : List ℕ) (posts : ℕ) (before mid now : Told) (outcome : OutcomeView) (is : under ≡ status) (size : posts ≡ length olds) (begun : OpensTold status before mid) where
    ends_as : (counts : Option (List PostCount)) (failed : Bool) → EndsTold under posts counts failed mid now → EndsTold status (length olds) counts failed mid now
    ends_as counts failed ends = subst (λ (n : ℕ). EndsTold status n counts failed mid now) size (subst (λ (n : List ℕ). EndsTold n posts counts failed mid now) is ends)

    -- STATUS was opened, and then the link was relayed, or there was no memory for that
    pub runs_open : (result : Result Relayed NoMemory) → RelaysOpen capacity left later fresh missed name named olds news result
        → IfOk result (λ it. (failed : Bool) × EndsTold under posts (Some it.counts.items) failed mid now × (outcome ≡ outcome_with it.end (failed || list_any has_failed it.counts.items) it.counts.items))
        → OnErr result ((failed : Bool) × EndsTold under posts None failed mid now × (outcome ≡ unless_failed failed (Failed faults.NoMemory)))
        → RunsOpened capacity status left later fresh missed before now olds news outcome
    runs_open (Ok it) opens relayed nothing = inr (record {
      end = it.end;
      counts = it.counts.items;
      relays = opens.relays;
      read = opens.cause;
      failed = relayed.0;
      tells = record { mid = mid; opens = begun; ends = ends_as (Some it.counts.items) relayed.0 relayed.1 };
      outcome_is = relayed.2;
    })
    runs_open (Err refusal) opens relayed nothing = inl (
      record { left_is = opens.unread; missed_is = opens.cause.still (λ never. never); posts_are = opens.untouched },
      inr (record { failed = nothing.0; tells = record { mid = mid; opens = begun; ends = ends_as None nothing.0 nothing.1 }; outcome_is = nothing.2 }),
    )
