-- A run of lag comes to its end where nothing fails.
use Rattle.std.proofs.Common.{◌≡◌, ◌∙◌, ◌⊎◌, inl, inr, ℕ, Bool, List, refl, sym, ap, subst}
use Rattle.tesla_desk.specs.Outside.{Page, Holds, Told}
use Rattle.tesla_front.specs.OutcomeView.{OutcomeView, Done, Usage, Refused, Failed}
use Rattle.tesla_front.specs.Command.{Performs}
use Rattle.tesla_front.specs.Files.{HoldsWhere}
use Rattle.tesla_front.specs.Run.{NothingFailed}
use Rattle.tesla_front.specs.declared.fault.Fault.{Fault}
use Rattle.tesla_front.specs.declared.fault.Fault.TheVariants as faults
use Rattle.tesla_front.proofs.Commands.{memory_alone}
use Rattle.tesla_run_ask.specs.lag.Arguments.{LagArguments}
use Rattle.tesla_run_ask.specs.lag.Lag.{Ends, JudgesTexts, lag, lag_outcome}

held : (page : Page) (text other : List ℕ) (failed : Bool) → page ≡ Holds text failed → HoldsWhere page (λ t. t ≡ other) → text ≡ other
held page text other failed is holds = subst (λ (p : Page). HoldsWhere p (λ t. t ≡ other)) is holds

-- what was judged is what the texts come to
judged_is : (drift opened : ℕ) (ask_page reply_page key_page : Page) (outcome : OutcomeView) (ask reply key : List ℕ) (failed others more : Bool) → ask_page ≡ Holds ask failed → reply_page ≡ Holds reply others → key_page ≡ Holds key more → JudgesTexts drift opened ask_page reply_page key_page outcome → outcome ≡ lag_outcome drift ask reply key
judged_is drift opened ask_page reply_page key_page outcome ask reply key failed others more asks replies keys it =
    let a : ask ≡ it.asked = held ask_page ask it.asked failed asks it.ask_is in
    let r : reply ≡ it.replied = held reply_page reply it.replied others replies it.reply_is in
    let k : key ≡ it.shared = held key_page key it.shared more keys it.key_is in
    it.judged ∙ ap (λ t. lag_outcome drift t it.replied it.shared) (sym a) ∙ ap (λ t. lag_outcome drift ask t it.shared) (sym r) ∙ ap (λ t. lag_outcome drift ask reply t) (sym k)

ended : (drift opened : ℕ) (ask_page reply_page key_page : Page) (outcome : OutcomeView) (ask reply key : List ℕ) (failed others more : Bool) → ask_page ≡ Holds ask failed → reply_page ≡ Holds reply others → key_page ≡ Holds key more → Ends drift opened ask_page reply_page key_page outcome → (outcome ≡ lag_outcome drift ask reply key) ⊎ ((fault : Fault) × (outcome ≡ Failed fault))
ended drift opened ask_page reply_page key_page (Done lines) ask reply key failed others more asks replies keys it = inl (judged_is drift opened ask_page reply_page key_page (Done lines) ask reply key failed others more asks replies keys it)
ended drift opened ask_page reply_page key_page Usage ask reply key failed others more asks replies keys it = absurd it
ended drift opened ask_page reply_page key_page (Refused status line) ask reply key failed others more asks replies keys it = inl (judged_is drift opened ask_page reply_page key_page (Refused status line) ask reply key failed others more asks replies keys it)
ended drift opened ask_page reply_page key_page (Failed fault) ask reply key failed others more asks replies keys it = inr (fault, refl)

-- a run of lag comes to what the texts come to, or to want of memory
pub complete : (arguments : LagArguments) (old new : Told) (outcome : OutcomeView) (ask reply key : List ℕ) (failed others more : Bool) → Performs lag arguments old new outcome → old.page arguments.ask ≡ Holds ask failed → old.page arguments.reply ≡ Holds reply others → old.page arguments.key ≡ Holds key more → NothingFailed old.faults new.faults → (outcome ≡ lag_outcome arguments.drift ask reply key) ⊎ (outcome ≡ Failed faults.NoMemory)
complete arguments old new outcome ask reply key failed others more performs asks replies keys none =
    elim (ended arguments.drift performs.opened (old.page arguments.ask) (old.page arguments.reply) (old.page arguments.key) outcome ask reply key failed others more asks replies keys performs.does) [
      | inl judged ↦ inl judged
      | inr fault ↦ inr (memory_alone old.faults new.faults outcome fault.0 performs.counts none fault.1)
    ]
