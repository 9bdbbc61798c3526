-- Calls that are accepted without the seeds, and the logs of a namer.
use Rattle.std.proofs.Common.{◌≡◌, ℕ, zero, suc, ◌+◌, ◌<◌, ◌≤◌, Bool, true, false, cond, List, [], ◌∷◌, ◌++◌, length, drop, Some, refl, sym, ◌∙◌, ap, subst, append_assoc, arith}
use Rattle.std.specs.Prelude.{Result, Ok, Err, IsOk, IfOk, OnErr, ◌||◌, nat_lt, slice_get, if◌then◌else◌}
use Rattle.std.proofs.lemmas.Bool.{eq-eqb, lt-ltb, ltb-false}
use Rattle.std.proofs.lemmas.List.{append-nil}
use Rattle.tesla_base.specs.declared.names.Key.{Key}
use Rattle.tesla_base.specs.declared.names.Name.{Name}
use Rattle.tesla_commit.specs.Parts.{Parts}
use Rattle.tesla_commit.specs.declared.chain_row.ChainRow.{ChainRow}
use Rattle.tesla_frame.specs.Frame.{Frame}
use Rattle.tesla_sender.specs.declared.refusal.DiscloseRefusal.{DiscloseRefusal}
use Rattle.tesla_sender.specs.declared.refusal.SendRefusal.{SendRefusal}
use Rattle.tesla_sender.specs.Made.{Call, Message, Disclose, Stream, any_due, chains_from, disclosed, disclosed_after, framed, interval_at, interval_in, is_message_of, latest_of, made_disclosure, made_message, messages_of, name_of}
use Rattle.tesla_sender.specs.Names.{AreNamedAfter, IsNamed, NamesAfter, Naming, accepted, disclosed_in, disclosed_next, disclosed_of, named_in, named_next, rows_due}
use Rattle.tesla_sender.specs.Stands.{AreAcceptedAfter, IsAccepted, log_after}
use Rattle.tesla_sender.proofs.Logs.{AreLater, IsNamed as IsNamedSo, latest_more, messages_more, name_of_log, named, number_of_log}

-- ---- calls that never go back

ok_of : (result : Result Name SendRefusal) → IsOk result → (name : Name) × (result ≡ Ok name)
ok_of (Ok name) ok = (name, refl)
ok_of (Err refusal) ok = absurd cc

later_step : (a due : Bool) (r : DiscloseRefusal) (interval : ℕ) (s : DiscloseRefusal) → IsOk (if a then Err r else if due then Ok interval else Err s) → a ≡ false
later_step true due r interval s ok = absurd cc
later_step false due r interval s ok = refl

later_named : (setup : Parts) (log : List Call) (call : Call) → IsNamed setup log call → latest_of setup.times log ≤ interval_in setup.times call
later_named setup log (Message reading payload) ok =
    let name = ok_of (name_of setup.times log reading payload) ok in
    (named setup.times _ _ reading payload name.0 name.1).later
later_named setup log (Disclose reading) ok = ltb-false _ _ (later_step _ _ _ _ _ ok)

pub all_later : (setup : Parts) (before calls : List Call) → AreNamedAfter setup before calls → AreLater setup.times before calls
all_later setup before [] all = tt
all_later setup before (call ∷ calls) all = (later_named setup before call all.0, all_later setup (before ++ call ∷ []) calls all.1)

named_more : (setup : Parts) (before calls : List Call) (call : Call) → AreNamedAfter setup before calls → IsNamed setup (before ++ calls) call → AreNamedAfter setup before (calls ++ call ∷ [])
named_more setup before [] call all one = (subst (λ log. IsNamed setup log call) (append-nil before) one, tt)
named_more setup before (first ∷ calls) call all one =
    (all.0, named_more setup (before ++ first ∷ []) calls call all.1 (subst (λ log. IsNamed setup log call) (sym (append_assoc before (first ∷ []) calls)) one))

-- ---- the rows that are due

-- from one row on: that row, or one behind it
due_from : (interval : ℕ) (rows : List ChainRow) (at : ℕ) (row : ChainRow) → slice_get rows at ≡ Some row → rows_due interval (drop at rows) ≡ (nat_lt row.delay interval || rows_due interval (drop (at + 1) rows))
due_from interval [] at row is = absurd cc
due_from interval (first ∷ rows) zero row is =
    let same : first ≡ row = cc in
    ap (λ (r : ChainRow). nat_lt r.delay interval || rows_due interval rows) same
due_from interval (first ∷ rows) (suc at) row is =
    let next : suc at + 1 ≡ suc (at + 1) = omega arith in
    rw next (due_from interval rows at row is)

pub due_here : (interval : ℕ) (rows : List ChainRow) (at : ℕ) (row : ChainRow) → slice_get rows at ≡ Some row → row.delay < interval → rows_due interval (drop at rows) ≡ true
due_here interval rows at row is due =
    due_from interval rows at row is ∙ ap (λ b. b || rows_due interval (drop (at + 1) rows)) (lt-ltb _ _ due)

-- ---- the answers of a namer

pub message_named : (namer : Naming) (log : List Call) (reading : ℕ) (payload : List ℕ) (returned : Result Name SendRefusal) → NamesAfter namer log → returned ≡ named_next namer reading payload → returned ≡ name_of namer.setup.times log reading payload
message_named namer log reading payload returned names is =
    is ∙ sym (name_of_log namer.setup.times namer.latest namer.used log reading payload (all_later namer.setup [] log names.named) names.latest names.used)

pub disclosure_named : (namer : Naming) (log : List Call) (reading : ℕ) (returned : Result (Unit {0}) DiscloseRefusal) → NamesAfter namer log → returned ≡ accepted (disclosed_next namer reading) → returned ≡ accepted (disclosed_of namer.setup log reading)
disclosure_named namer log reading returned names is =
    let times = namer.setup.times in
    is ∙ ap (λ latest. accepted (disclosed_after times latest (rows_due (interval_at times reading) namer.setup.rows) reading)) names.latest

-- ---- the log after a call

message_more : (namer : Naming) (log : List Call) (reading : ℕ) (payload : List ℕ) (name : Name) → NamesAfter namer log → name_of namer.setup.times log reading payload ≡ Ok name → NamesAfter (named_in namer name) (log ++ Message reading payload ∷ [])
message_more namer log reading payload name names is =
    let times = namer.setup.times in
    let interval = interval_at times reading in
    let call : Call = Message reading payload in
    let so : IsNamedSo times (latest_of times log) (messages_of times interval log) reading payload name = named times _ _ reading payload name is in
    let here : is_message_of times interval call ≡ true = eq-eqb _ _ refl in
    let one : cond {A = ℕ} (is_message_of times interval call) 1 0 ≡ 1 = ap (λ b. cond {A = ℕ} b 1 0) here in
    let at : interval ≡ name.interval = ap (λ (n : Name). n.interval) so.is in
    let number : messages_of times interval log ≡ name.number = ap (λ (n : Name). n.number) so.is in
    let used : name.number + 1 ≡ messages_of times interval (log ++ call ∷ []) = omega (arith, messages_more times interval log call, one, number) in
    record {
      named = named_more namer.setup [] log call names.named (subst {A = Result Name SendRefusal} (λ result. IsOk result) (sym is) refl);
      latest = sym at ∙ sym (latest_more times log call);
      used = used ∙ ap (λ i. messages_of times i (log ++ call ∷ [])) at;
    }

pub message_names : (before now : Naming) (log : List Call) (reading : ℕ) (payload : List ℕ) (returned : Result Name SendRefusal) → NamesAfter before log → returned ≡ named_next before reading payload → IfOk returned (λ name. now ≡ named_in before name) → OnErr returned (now ≡ before) → NamesAfter now (log_after log (Message reading payload) returned)
message_names before now log reading payload (Ok name) names is after same =
    subst (λ namer. NamesAfter namer (log ++ Message reading payload ∷ [])) (sym after) (message_more before log reading payload name names (sym (message_named before log reading payload (Ok name) names is)))
message_names before now log reading payload (Err refusal) names is after same = subst (λ namer. NamesAfter namer log) (sym same) names

disclosure_more : (namer : Naming) (log : List Call) (reading interval : ℕ) → NamesAfter namer log → disclosed_of namer.setup log reading ≡ Ok interval → interval ≡ interval_at namer.setup.times reading → NamesAfter (disclosed_in namer interval) (log ++ Disclose reading ∷ [])
disclosure_more namer log reading interval names is at =
    let times = namer.setup.times in
    let ok : IsOk (disclosed_of namer.setup log reading) = subst {A = Result ℕ DiscloseRefusal} (λ result. IsOk result) (sym is) refl in
    let later : namer.latest ≤ interval = omega (arith, names.latest, at, later_named namer.setup log (Disclose reading) ok) in
    record {
      named = named_more namer.setup [] log (Disclose reading) names.named ok;
      latest = at ∙ sym (latest_more times log (Disclose reading));
      used = omega (arith, messages_more times interval log (Disclose reading), number_of_log times namer.latest namer.used log interval (all_later namer.setup [] log names.named) names.latest names.used later);
    }

interval_step : (a due : Bool) (r : DiscloseRefusal) (at interval : ℕ) (s : DiscloseRefusal) → (if a then Err r else if due then Ok at else Err s) ≡ Ok interval → interval ≡ at
interval_step true due r at interval s is = absurd cc
interval_step false true r at interval s is = cc
interval_step false false r at interval s is = absurd cc

pub disclosure_names : (before now : Naming) (log : List Call) (reading : ℕ) (returned : Result ℕ DiscloseRefusal) → NamesAfter before log → returned ≡ disclosed_next before reading → IfOk returned (λ interval. now ≡ disclosed_in before interval) → OnErr returned (now ≡ before) → NamesAfter now (log_after log (Disclose reading) (accepted returned))
disclosure_names before now log reading (Ok interval) names is after same =
    let times = before.setup.times in
    let of : disclosed_of before.setup log reading ≡ Ok interval = ap (λ latest. disclosed_after times latest (rows_due (interval_at times reading) before.setup.rows) reading) (sym names.latest) ∙ sym is in
    subst (λ namer. NamesAfter namer (log ++ Disclose reading ∷ [])) (sym after) (disclosure_more before log reading interval names of (interval_step _ _ _ _ _ _ of))
disclosure_names before now log reading (Err refusal) names is after same = subst (λ namer. NamesAfter namer log) (sym same) names

-- ---- the sender's answers

-- some chain has a key to disclose exactly where a row's delay says so
due_rows_are : (last number interval : ℕ) (rows : List ChainRow) (seeds : List Key) → length seeds ≡ length rows → any_due interval (chains_from last number rows seeds) ≡ rows_due interval rows
due_rows_are last number interval [] seeds same = refl
due_rows_are last number interval (row ∷ rows) [] same = absurd (omega (arith, same))
due_rows_are last number interval (row ∷ rows) (seed ∷ seeds) same =
    ap (λ rest. nat_lt row.delay interval || rest) (due_rows_are last (number + 1) interval rows seeds (omega (arith, same)))

pub message_framed : (stream : Stream) (log : List Call) (reading : ℕ) (payload : List ℕ) → made_message stream log reading payload ≡ framed stream payload (name_of stream.setup.times log reading payload)
unfolding made_message
message_framed stream log reading payload = refl

pub disclosure_framed : (stream : Stream) (log : List Call) (reading : ℕ) → length stream.seeds ≡ length stream.setup.rows → made_disclosure stream log reading ≡ disclosed stream (disclosed_of stream.setup log reading)
unfolding made_disclosure
disclosure_framed stream log reading same =
    let times = stream.setup.times in
    ap (λ due. disclosed stream (disclosed_after times (latest_of times log) due reading)) (due_rows_are times.last 0 (interval_at times reading) stream.setup.rows stream.seeds same)

framed_ok : (stream : Stream) (payload : List ℕ) (name : Result Name SendRefusal) → IsOk (framed stream payload name) → IsOk name
framed_ok stream payload (Ok name) ok = refl
framed_ok stream payload (Err refusal) ok = absurd cc

framed_back : (stream : Stream) (payload : List ℕ) (name : Result Name SendRefusal) → IsOk name → IsOk (framed stream payload name)
framed_back stream payload (Ok name) ok = refl
framed_back stream payload (Err refusal) ok = absurd cc

disclosed_ok : (stream : Stream) (interval : Result ℕ DiscloseRefusal) → IsOk (disclosed stream interval) → IsOk interval
disclosed_ok stream (Ok interval) ok = refl
disclosed_ok stream (Err refusal) ok = absurd cc

disclosed_back : (stream : Stream) (interval : Result ℕ DiscloseRefusal) → IsOk interval → IsOk (disclosed stream interval)
disclosed_back stream (Ok interval) ok = refl
disclosed_back stream (Err refusal) ok = absurd cc

call_named : (stream : Stream) (log : List Call) (call : Call) → length stream.seeds ≡ length stream.setup.rows → IsAccepted stream log call → IsNamed stream.setup log call
call_named stream log (Message reading payload) same ok =
    framed_ok stream payload _ (subst {A = Result Frame SendRefusal} (λ made. IsOk made) (message_framed stream log reading payload) ok)
call_named stream log (Disclose reading) same ok =
    disclosed_ok stream _ (subst {A = Result Frame DiscloseRefusal} (λ made. IsOk made) (disclosure_framed stream log reading same) ok)

call_accepted : (stream : Stream) (log : List Call) (call : Call) → length stream.seeds ≡ length stream.setup.rows → IsNamed stream.setup log call → IsAccepted stream log call
call_accepted stream log (Message reading payload) same ok =
    subst {A = Result Frame SendRefusal} (λ made. IsOk made) (sym (message_framed stream log reading payload)) (framed_back stream payload _ ok)
call_accepted stream log (Disclose reading) same ok =
    subst {A = Result Frame DiscloseRefusal} (λ made. IsOk made) (sym (disclosure_framed stream log reading same)) (disclosed_back stream _ ok)

-- the logs of accepted calls are the same
pub all_named : (stream : Stream) (before calls : List Call) → length stream.seeds ≡ length stream.setup.rows → AreAcceptedAfter stream before calls → AreNamedAfter stream.setup before calls
all_named stream before [] same all = tt
all_named stream before (call ∷ calls) same all = (call_named stream before call same all.0, all_named stream (before ++ call ∷ []) calls same all.1)

pub all_accepted : (stream : Stream) (before calls : List Call) → length stream.seeds ≡ length stream.setup.rows → AreNamedAfter stream.setup before calls → AreAcceptedAfter stream before calls
all_accepted stream before [] same all = tt
all_accepted stream before (call ∷ calls) same all = (call_accepted stream before call same all.0, all_accepted stream (before ++ call ∷ []) calls same all.1)
