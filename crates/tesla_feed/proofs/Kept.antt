-- What a feeder keeps of what was made, after each call.
use Rattle.std.proofs.Common.{◌≡◌, ◌∙◌, ℕ, ◌+◌, ◌≤◌, Bool, true, false, cond, List, [], ◌∷◌, ◌++◌, length, map, take, refl, sym, ap, subst, inl, inr, arith}
use Rattle.std.specs.Prelude.{Result, Ok, Err, Some, None, max, nat_le, nat_lt, eqb, not, ◌&&◌, ◌||◌, if◌then◌else◌, option_to_list}
use Rattle.std.specs.List.{list_any}
use Rattle.std.proofs.lemmas.Bool.{cases_lt, le-ltb, leb-true, ltb-true, lt-ltb, ne_eqb, eq-eqb}
use Rattle.std.proofs.lemmas.List.Sums.{fold-append, sum_by-append}
use Rattle.tesla_base.specs.declared.names.Name.{Name}
use Rattle.tesla_clock.specs.Schedule.{Times}
use Rattle.tesla_frame.specs.Frame.{Frame, frame_text}
use Rattle.tesla_sender.specs.Made.{Call, Message, Disclose, Chain, Stream, any_due, chains_of, disclosed, disclosed_after, disclosure_frame, frame_in, framed, index_disclosed, interval_at, interval_in, is_message_of, latest_of, made_disclosure, made_message, message_frame, messages_of, name_after, name_of, tells_newer}
use Rattle.tesla_sender.specs.Stands.{Answers, State, gone_on, number_at, sent_in, returned_disclosure, returned_message}
use Rattle.tesla_sender.specs.declared.refusal.DiscloseRefusal.{DiscloseRefusal}
use Rattle.tesla_sender.specs.declared.refusal.DiscloseRefusal.TheVariants as undisclosed
use Rattle.tesla_sender.specs.declared.refusal.SendRefusal.{SendRefusal}
use Rattle.tesla_sender.specs.declared.refusal.SendRefusal.TheVariants as unsent
use Rattle.tesla_sender.proofs.Logs.{named, spells_answered}
use Rattle.tesla_feed.specs.Fed.{counts_of, Feeding, after_none, datagram_of, has_begun, is_due, is_unread, last_message, latest_from, message_interval, name_from, tells_more, disclosed_by, with_call, with_refusal}
use Rattle.tesla_feed.specs.Steps.{Makes, Says, StandsFor, after_refusal, is_due_after, one_more}
use Rattle.tesla_feed.specs.declared.counts.FeedCounts.{FeedCounts}
use Rattle.tesla_feed.specs.declared.feeder.Feeder.{Feeder}
use Rattle.tesla_feed.proofs.Counting.{disclosure_counts, message_counts, refused_counts}

-- ---- logs with one call more

latest_more : (times : Times) (log : List Call) (call : Call) → latest_of times (log ++ call ∷ []) ≡ interval_in times call
latest_more times log call = fold-append (λ (before : ℕ) (call : Call). interval_in times call) 0 log (call ∷ [])

messages_more : (times : Times) (interval : ℕ) (log : List Call) (call : Call) → messages_of times interval (log ++ call ∷ []) ≡ messages_of times interval log + (0 + cond {A = ℕ} (is_message_of times interval call) 1 0)
messages_more times interval log call = sum_by-append (λ c. cond {A = ℕ} (is_message_of times interval c) 1 0) log (call ∷ [])

last_more : (times : Times) (log : List Call) (call : Call) → last_message times (log ++ call ∷ []) ≡ message_interval times (last_message times log) call
last_more times log call = fold-append (message_interval times) 0 log (call ∷ [])

disclosed_more : (times : Times) (log : List Call) (call : Call) (chain : Chain) → disclosed_by times (log ++ call ∷ []) chain ≡ max (disclosed_by times log chain) (index_disclosed (interval_in times call) chain)
disclosed_more times log call chain = fold-append (λ (most : ℕ) (call : Call). max most (index_disclosed (interval_in times call) chain)) 0 log (call ∷ [])

-- a call that doesn't go backward tells at least what was told
disclosed_last : (times : Times) (log : List Call) (call : Call) (chain : Chain) (latest : ℕ) → disclosed_by times log chain ≡ index_disclosed latest chain → latest ≤ interval_in times call → disclosed_by times (log ++ call ∷ []) chain ≡ index_disclosed (interval_in times call) chain
disclosed_last times log call chain latest told later = omega (arith, disclosed_more times log call chain, told, later)

-- ---- names

abbrev ok_size : ℕ → Result ℕ SendRefusal
ok_size size = Ok size

abbrev err_size : SendRefusal → Result ℕ SendRefusal
err_size refusal = Err refusal

abbrev ok_disclosed : ℕ → Result ℕ DiscloseRefusal
ok_disclosed size = Ok size

abbrev err_disclosed : DiscloseRefusal → Result ℕ DiscloseRefusal
err_disclosed refusal = Err refusal

abbrev ok_frame : Frame → Result Frame DiscloseRefusal
ok_frame frame = Ok frame

-- how a name is judged, told whether the reading goes backward
abbrev judged : Times → Bool → ℕ → ℕ → ℕ → List ℕ → Result Name SendRefusal
judged times backward before number reading payload =
    if nat_lt 1200 (length payload) then Err (unsent.TooLong (length payload))
    else if eqb (interval_at times reading) 0 then Err (unsent.Early reading)
    else if nat_lt times.last (interval_at times reading) then Err (unsent.Over (interval_at times reading))
    else if backward then Err (unsent.Backward before)
    else if nat_lt number 65536 then Ok (record { interval = interval_at times reading; number = number })
    else Err (unsent.IntervalFull (interval_at times reading))

-- where it doesn't go backward, it doesn't matter what the last call was
judged_forward : (times : Times) (before number reading : ℕ) (payload : List ℕ) → before ≤ interval_at times reading → name_after times before number reading payload ≡ judged times false 0 number reading payload
judged_forward times before number reading payload later =
    let forward : nat_lt (interval_at times reading) before ≡ false = le-ltb (interval_at times reading) before later in
    ap (λ (b : Bool). judged times b before number reading payload) forward

-- ---- what a feeder keeps

-- how many messages of an interval were accepted, the last one or a later one
number_is : (stream : Stream) (first : ℕ) (feeder : Feeder) (made : Feeding) (interval : ℕ) → StandsFor stream first feeder made → feeder.sender.latest ≤ interval → number_at feeder.sender.latest feeder.sender.used interval ≡ messages_of stream.setup.times interval made.log
number_is stream first feeder made interval stands later =
    let times = stream.setup.times in
    let sender = feeder.sender in
    elim (cases_lt sender.latest interval) as (λ _. number_at sender.latest sender.used interval ≡ messages_of times interval made.log) [
      | inl after ↦
          let other : eqb interval sender.latest ≡ false = ne_eqb _ _ (λ e. absurd (omega arith)) in
          ap (λ b. if b then sender.used else 0) other ∙ sym (stands.none_later interval after)
      | inr least ↦
          let same : interval ≡ sender.latest = omega arith in
          let here : eqb interval sender.latest ≡ true = eq-eqb _ _ same in
          ap (λ b. if b then sender.used else 0) here ∙ stands.used ∙ ap (λ i. messages_of times i made.log) (sym same)
    ]

-- the name of a message is judged by what the sender keeps
pub name_is : (stream : Stream) (first : ℕ) (feeder : Feeder) (made : Feeding) (reading : ℕ) (payload : List ℕ) → StandsFor stream first feeder made → name_from stream.setup.times first made.log reading payload ≡ name_after stream.setup.times feeder.sender.latest (number_at feeder.sender.latest feeder.sender.used (interval_at stream.setup.times reading)) reading payload
name_is stream first feeder made reading payload stands =
    let times = stream.setup.times in
    let sender = feeder.sender in
    let interval = interval_at times reading in
    let number = messages_of times interval made.log in
    let now = number_at sender.latest sender.used interval in
    let before : name_from times first made.log reading payload ≡ name_after times sender.latest number reading payload = ap (λ b. name_after times b number reading payload) (sym stands.from) in
    let same : name_after times sender.latest number reading payload ≡ name_after times sender.latest now reading payload =
    elim (cases_lt interval sender.latest) as (λ _. name_after times sender.latest number reading payload ≡ name_after times sender.latest now reading payload) [
      | inl back ↦ (let goes_back : nat_lt interval sender.latest ≡ true = lt-ltb _ _ back in rw goes_back refl)
      | inr later ↦ ap (λ n. name_after times sender.latest n reading payload) (sym (number_is stream first feeder made interval stands later))
    ] in
    before ∙ same

-- a message that has a name has it also as a sender names it
pub made_name : (stream : Stream) (first : ℕ) (log : List Call) (reading : ℕ) (payload : List ℕ) (name : Name) → name_from stream.setup.times first log reading payload ≡ Ok name → name_of stream.setup.times log reading payload ≡ Ok name
made_name stream first log reading payload name is =
    let times = stream.setup.times in
    let number = messages_of times (interval_at times reading) log in
    let of = named times (latest_from times first log) number reading payload name is in
    let later : latest_of times log ≤ interval_at times reading = omega (arith, of.later) in
    judged_forward times (latest_of times log) number reading payload later ∙ sym (judged_forward times (latest_from times first log) number reading payload of.later) ∙ is

-- ---- a message more

-- it was sent: what its frame is
sent_frame : (stream : Stream) (payload : List ℕ) (name : Result Name SendRefusal) (size : ℕ) (before now : List ℕ) → Answers (ok_size size) (framed stream payload name) before now → (n : Name) × (name ≡ Ok n) × (take size now ≡ frame_text (message_frame stream.setup (chains_of stream) n payload))
sent_frame stream payload (Ok n) size before now answers = (n, refl, (spells_answered (ok_size size) (framed stream payload (Ok n)) before now answers).spelled)
sent_frame stream payload (Err refusal) size before now answers = absurd answers

-- it was refused: so is its name
refused_name : (stream : Stream) (payload : List ℕ) (name : Result Name SendRefusal) (refusal : SendRefusal) (before now : List ℕ) → Answers (err_size refusal) (framed stream payload name) before now → name ≡ Err refusal
refused_name stream payload (Ok n) refusal before now answers = absurd answers
refused_name stream payload (Err other) refusal before now answers = ap (λ (r : SendRefusal). let it : Result Name SendRefusal = Err r in it) (sym answers)

-- the datagram that is added
pub message_datagram : (stream : Stream) (first : ℕ) (feeder : Feeder) (made : Feeding) (reading : ℕ) (payload : List ℕ) (size : ℕ) (before now : List ℕ) → StandsFor stream first feeder made → Answers (ok_size size) (framed stream payload (name_after stream.setup.times feeder.sender.latest (number_at feeder.sender.latest feeder.sender.used (interval_at stream.setup.times reading)) reading payload)) before now
    → (n : Name) × (name_from stream.setup.times first made.log reading payload ≡ Ok n) × (datagram_of stream made.log (Message reading payload) ≡ take size now ∷ [])
unfolding made_message
message_datagram stream first feeder made reading payload size before now stands answers =
    let sent = sent_frame stream payload _ size before now answers in
    let name = sent.0 in
    let from : name_from stream.setup.times first made.log reading payload ≡ Ok name = name_is stream first feeder made reading payload stands ∙ sent.1 in
    let frame = message_frame stream.setup (chains_of stream) name payload in
    let framed_is : made_message stream made.log reading payload ≡ Ok frame = ap (framed stream payload) (made_name stream first made.log reading payload name from) in
    let P : Result Frame SendRefusal → List (List ℕ) = λ m. map frame_text (option_to_list (frame_in m)) in
    (name, from, ap P framed_is ∙ ap (λ (t : List ℕ). t ∷ []) (sym sent.2))

-- it was refused
pub message_refused : (stream : Stream) (first : ℕ) (feeder : Feeder) (made : Feeding) (reading : ℕ) (payload : List ℕ) (refusal : SendRefusal) (before now : List ℕ) → StandsFor stream first feeder made → Answers (err_size refusal) (framed stream payload (name_after stream.setup.times feeder.sender.latest (number_at feeder.sender.latest feeder.sender.used (interval_at stream.setup.times reading)) reading payload)) before now
    → name_from stream.setup.times first made.log reading payload ≡ Err refusal
message_refused stream first feeder made reading payload refusal before now stands answers =
    name_is stream first feeder made reading payload stands ∙ refused_name stream payload _ refusal before now answers

-- what a feeder keeps after a message
pub message_stands : (stream : Stream) (first : ℕ) (feeder now : Feeder) (made : Feeding) (reading : ℕ) (payload : List ℕ) (name : Name) → StandsFor stream first feeder made → name_from stream.setup.times first made.log reading payload ≡ Ok name
    → now.sender ≡ sent_in feeder.sender (interval_at stream.setup.times reading) now.sender.left → now.first ≡ feeder.first → now.latest ≡ interval_at stream.setup.times reading → now.message ≡ interval_at stream.setup.times reading
    → now.counts ≡ record feeder.counts { messages = one_more feeder.counts.messages } → StandsFor stream first now (with_call made (Message reading payload))
message_stands stream first feeder now made reading payload name stands from sender first_is latest message counts =
    let times = stream.setup.times in
    let call = Message reading payload in
    let interval = interval_at times reading in
    let of = named times (latest_from times first made.log) _ reading payload name from in
    let here : is_message_of times interval call ≡ true = eq-eqb interval interval refl in
    let one : cond {A = ℕ} (is_message_of times interval call) 1 0 ≡ 1 = ap (λ b. cond {A = ℕ} b 1 0) here in
    let later : feeder.sender.latest ≤ interval = omega (arith, stands.from, of.later) in
    let at : now.sender.latest ≡ interval = ap (λ (s : State). s.latest) sender in
    let used : now.sender.used ≡ number_at feeder.sender.latest feeder.sender.used interval + 1 = ap (λ (s : State). s.used) sender in
    let counted : number_at feeder.sender.latest feeder.sender.used interval ≡ messages_of times interval made.log = number_is stream first feeder made interval stands later in
    let moved : messages_of times now.sender.latest (made.log ++ call ∷ []) ≡ messages_of times interval (made.log ++ call ∷ []) = ap (λ i. messages_of times i (made.log ++ call ∷ [])) at in
    record {
      stream_is = ap (λ (s : State). s.stream) sender ∙ stands.stream_is;
      first_is = first_is ∙ stands.first_is;
      from = omega (arith, at, latest_more times made.log call, of.later);
      used = omega (arith, used, counted, messages_more times interval made.log call, one, moved);
      none_later = λ after less.
          let no : cond {A = ℕ} (is_message_of times after call) 1 0 ≡ 0 = ap (λ b. cond {A = ℕ} b 1 0) (ne_eqb interval after (λ e. absurd (omega arith))) in
          let none : messages_of times after made.log ≡ 0 = stands.none_later after (omega (arith, later, at, less)) in
          omega (arith, messages_more times after made.log call, no, none);
      latest = latest ∙ sym (latest_more times made.log call);
      keys_disclosed = λ chain.
          let told = disclosed_last times made.log call chain feeder.latest (stands.keys_disclosed chain) (omega (arith, stands.latest, of.later)) in
          told ∙ ap (λ i. index_disclosed i chain) (sym latest);
      message = message ∙ sym (last_more times made.log call);
      counts = counts ∙ ap (λ (c : FeedCounts). let it : FeedCounts = record c { messages = one_more c.messages } in it) stands.counts ∙ sym (message_counts made reading payload);
    }

-- ---- a disclosure more

any_same : {A : Type 0} (p q : A → Bool) (xs : List A) → ((x : A) → p x ≡ q x) → list_any p xs ≡ list_any q xs
any_same p q [] same = refl
any_same p q (x ∷ xs) same = ap (λ b. b || list_any p xs) (same x) ∙ ap (λ b. q x || b) (any_same p q xs same)

-- whether one is due, told whether the clock couldn't be read
abbrev due_where : Stream → ℕ → List Call → ℕ → Bool → Bool
due_where stream first log reading unread =
    let interval = interval_at stream.setup.times reading in
    (not unread && nat_le first interval) && (nat_le (latest_of stream.setup.times log) interval && tells_more stream log interval)

-- while it can't be read none is
pub never_due : (stream : Stream) (first : ℕ) (log : List Call) (reading : ℕ) → is_unread reading ≡ true → is_due stream first log reading ≡ false
never_due stream first log reading unread = ap (due_where stream first log reading) unread

-- whether one is due is judged by what a feeder keeps
pub due_is : (stream : Stream) (first : ℕ) (feeder : Feeder) (made : Feeding) (reading : ℕ) → is_unread reading ≡ false → StandsFor stream first feeder made → is_due stream first made.log reading ≡ is_due_after stream first feeder.latest (interval_at stream.setup.times reading)
due_is stream first feeder made reading read stands =
    let times = stream.setup.times in
    let interval = interval_at times reading in
    let newer : tells_more stream made.log interval ≡ tells_newer feeder.latest interval (chains_of stream) = any_same (λ chain. nat_lt (disclosed_by times made.log chain) (index_disclosed interval chain)) (λ chain. nat_lt (index_disclosed feeder.latest chain) (index_disclosed interval chain)) (chains_of stream) (λ chain. ap (λ n. nat_lt n (index_disclosed interval chain)) (stands.keys_disclosed chain)) in
    ap (due_where stream first made.log reading) read ∙ ap (λ (l : ℕ). nat_le first interval && (nat_le l interval && tells_more stream made.log interval)) (sym stands.latest) ∙ ap (λ (b : Bool). nat_le first interval && (nat_le feeder.latest interval && b)) newer

-- where one is due, some chain has a key to disclose
newer_one : (most interval : ℕ) (chain : Chain) → nat_lt most (index_disclosed interval chain) ≡ true → nat_lt chain.row.delay interval ≡ true
newer_one most interval chain newer = lt-ltb _ _ (omega (arith, ltb-true _ _ newer))

or_ways : (a b c d : Bool) → (a ≡ true → c ≡ true) → (b ≡ true → d ≡ true) → (a || b) ≡ true → (c || d) ≡ true
or_ways true b c d left right is = ap (λ x. x || d) (left refl)
or_ways false b true d left right is = refl
or_ways false b false d left right is = right is

-- the greatest index that was told is a function of the chain
any_newer : (most : Chain → ℕ) (interval : ℕ) (chains : List Chain) → list_any (λ chain. nat_lt (most chain) (index_disclosed interval chain)) chains ≡ true → any_due interval chains ≡ true
any_newer most interval [] newer = absurd cc
any_newer most interval (chain ∷ chains) newer =
    or_ways (nat_lt (most chain) (index_disclosed interval chain)) (list_any (λ c. nat_lt (most c) (index_disclosed interval c)) chains) (nat_lt chain.row.delay interval) (any_due interval chains) (newer_one (most chain) interval chain) (any_newer most interval chains) newer

and_ways : (a b c : Bool) → (a && (b && c)) ≡ true → (a ≡ true) × (b ≡ true) × (c ≡ true)
and_ways true true true is = (refl, refl, refl)
and_ways true true false is = absurd cc
and_ways true false c is = absurd cc
and_ways false b c is = absurd cc

-- what is known where one is due
pub record IsDue (stream : Stream) (first latest interval : ℕ) : Type 0 where
  pub begun : first ≤ interval
  pub later : latest ≤ interval
  pub some : any_due interval (chains_of stream) ≡ true

pub due_tells : (stream : Stream) (first latest interval : ℕ) → is_due_after stream first latest interval ≡ true → IsDue stream first latest interval
due_tells stream first latest interval due =
    let ways = and_ways (nat_le first interval) (nat_le latest interval) (tells_newer latest interval (chains_of stream)) due in
    record { begun = leb-true _ _ ways.0; later = leb-true _ _ ways.1; some = any_newer (λ chain. index_disclosed latest chain) interval (chains_of stream) ways.2 }

begun_ways : (unread begun : Bool) → (not unread && begun) ≡ true → (unread ≡ false) × (begun ≡ true)
begun_ways false true is = (refl, refl)
begun_ways false false is = absurd cc
begun_ways true begun is = absurd cc

-- and the clock was read
pub log_read : (stream : Stream) (first : ℕ) (log : List Call) (reading : ℕ) → is_due stream first log reading ≡ true → is_unread reading ≡ false
log_read stream first log reading due =
    let times = stream.setup.times in
    let interval = interval_at times reading in
    let ways = and_ways (has_begun times first reading) (nat_le (latest_of times log) interval) (tells_more stream log interval) due in
    (begun_ways (is_unread reading) (nat_le first interval) ways.0).0

-- the same, judged by the log
pub log_tells : (stream : Stream) (first : ℕ) (log : List Call) (reading : ℕ) → is_due stream first log reading ≡ true → IsDue stream first (latest_of stream.setup.times log) (interval_at stream.setup.times reading)
log_tells stream first log reading due =
    let times = stream.setup.times in
    let interval = interval_at times reading in
    let ways = and_ways (has_begun times first reading) (nat_le (latest_of times log) interval) (tells_more stream log interval) due in
    let begun = begun_ways (is_unread reading) (nat_le first interval) ways.0 in
    record { begun = leb-true _ _ begun.1; later = leb-true _ _ ways.1; some = any_newer (disclosed_by times log) interval (chains_of stream) ways.2 }

abbrev discloses : Bool → Bool → DiscloseRefusal → ℕ → Result ℕ DiscloseRefusal
discloses backward due refusal interval = if backward then Err refusal else if due then Ok interval else Err undisclosed.NothingDue

-- so the sender accepts it
pub due_accepted : (stream : Stream) (before reading : ℕ) → before ≤ interval_at stream.setup.times reading → any_due (interval_at stream.setup.times reading) (chains_of stream) ≡ true
    → disclosed_after stream.setup.times before (any_due (interval_at stream.setup.times reading) (chains_of stream)) reading ≡ Ok (interval_at stream.setup.times reading)
due_accepted stream before reading later some =
    let interval = interval_at stream.setup.times reading in
    ap (λ (b : Bool). discloses b (any_due interval (chains_of stream)) (undisclosed.Backward before) interval) (le-ltb interval before later)
    ∙ ap (λ (b : Bool). discloses false b (undisclosed.Backward before) interval) some

-- ---- what each call makes

-- what is ready and counted changes nothing else
kept_stands : (stream : Stream) (first : ℕ) (feeder : Feeder) (made : Feeding) (left : ℕ) (frame : List ℕ) (counts : FeedCounts) (refused : List SendRefusal) → StandsFor stream first feeder made
    → counts ≡ counts_of (record made { refused = refused }) → StandsFor stream first (record feeder { sender = record feeder.sender { left = left }; frame = frame; counts = counts }) (record made { refused = refused })
kept_stands stream first feeder made left frame counts refused stands counted = record {
  stream_is = stands.stream_is;
  first_is = stands.first_is;
  from = stands.from;
  used = stands.used;
  none_later = stands.none_later;
  latest = stands.latest;
  keys_disclosed = stands.keys_disclosed;
  message = stands.message;
  counts = counted;
}

-- the keys that are made ahead change nothing
pub next_stands : (stream : Stream) (first : ℕ) (feeder : Feeder) (sender : State) (made : Feeding) → sender ≡ record { stream = feeder.sender.stream; latest = feeder.sender.latest; used = feeder.sender.used; left = sender.left; reserved = feeder.sender.reserved } → StandsFor stream first feeder made → StandsFor stream first (record feeder { sender = sender }) made
next_stands stream first feeder sender made same stands =
    let P : State → Type 0 = λ s. StandsFor stream first (record feeder { sender = s }) made in
    subst P (sym same) (kept_stands stream first feeder made sender.left feeder.frame feeder.counts made.refused stands stands.counts)

-- a message that is refused is counted
pub refused_stands : (stream : Stream) (first : ℕ) (feeder : Feeder) (made : Feeding) (refusal : SendRefusal) (frame : List ℕ) (counts : FeedCounts) → counts ≡ after_refusal feeder.counts refusal → StandsFor stream first feeder made → StandsFor stream first (record feeder { frame = frame; counts = counts }) (with_refusal made refusal)
refused_stands stream first feeder made refusal frame counts after stands =
    kept_stands stream first feeder made feeder.sender.left frame counts (with_refusal made refusal).refused stands (after ∙ ap (λ (c : FeedCounts). after_refusal c refusal) stands.counts ∙ sym (refused_counts made refusal))

abbrev disclosed_where : Feeding → ℕ → Bool → Feeding
disclosed_where made reading due = if due then with_call made (Disclose reading) else made

-- no disclosure was due
pub makes_none : (stream : Stream) (first : ℕ) (feeder : Feeder) (made : Feeding) (reading : ℕ) → is_unread reading ≡ false → is_due_after stream first feeder.latest (interval_at stream.setup.times reading) ≡ false → StandsFor stream first feeder made → Makes stream first made (after_none stream first made reading) feeder None
makes_none stream first feeder made reading read due stands =
    let none : after_none stream first made reading ≡ made = ap (disclosed_where made reading) (due_is stream first feeder made reading read stands ∙ due) in
    let P : Feeding → Type 0 = λ after. Makes stream first made after feeder None in
    subst P (sym none) (record { stands = stands; adds = refl })

-- a disclosure that is due isn't refused
pub never_refused : (stream : Stream) (first : ℕ) (feeder : Feeder) (made : Feeding) (reading : ℕ) (refusal : DiscloseRefusal) (before now : List ℕ) → StandsFor stream first feeder made → is_due_after stream first feeder.latest (interval_at stream.setup.times reading) ≡ true
    → Answers (err_disclosed refusal) (returned_disclosure feeder.sender reading) before now → ⊥
never_refused stream first feeder made reading refusal before now stands due answers =
    let old = feeder.sender in
    let interval = interval_at stream.setup.times reading in
    let tells = due_tells stream first feeder.latest interval due in
    let told : returned_disclosure old reading ≡ disclosed stream (disclosed_after stream.setup.times old.latest (any_due interval (chains_of stream)) reading) = ap (λ (s : Stream). disclosed s (disclosed_after s.setup.times old.latest (any_due (interval_at s.setup.times reading) (chains_of s)) reading)) stands.stream_is in
    let P : Result Frame DiscloseRefusal → Type 0 = λ m. Answers (err_disclosed refusal) m before now in
    subst P (told ∙ ap (disclosed stream) (due_accepted stream old.latest reading (omega (arith, stands.from, stands.latest, tells.begun, tells.later)) tells.some)) answers

-- a disclosure that is due is made
pub makes_disclosure : (stream : Stream) (first : ℕ) (feeder now : Feeder) (made : Feeding) (reading size : ℕ) (before : List ℕ) → is_unread reading ≡ false → is_due_after stream first feeder.latest (interval_at stream.setup.times reading) ≡ true → StandsFor stream first feeder made
    → Answers (ok_disclosed size) (returned_disclosure feeder.sender reading) before now.frame → now.sender ≡ gone_on feeder.sender (interval_at stream.setup.times reading) now.sender.left
    → now.first ≡ feeder.first → now.latest ≡ interval_at stream.setup.times reading → now.message ≡ feeder.message → now.counts ≡ record feeder.counts { disclosures = one_more feeder.counts.disclosures }
    → Makes stream first made (after_none stream first made reading) now (Some size)
unfolding made_disclosure
makes_disclosure stream first feeder now made reading size before read due stands answers sender first_is latest message counts =
    let times = stream.setup.times in
    let call = Disclose reading in
    let interval = interval_at times reading in
    let old = feeder.sender in
    let tells = due_tells stream first feeder.latest interval due in
    let after : after_none stream first made reading ≡ with_call made call = ap (disclosed_where made reading) (due_is stream first feeder made reading read stands ∙ due) in
    let later : old.latest ≤ interval = omega (arith, stands.from, stands.latest, tells.begun, tells.later) in
    let told : returned_disclosure old reading ≡ disclosed stream (disclosed_after times old.latest (any_due interval (chains_of stream)) reading) = ap (λ (s : Stream). disclosed s (disclosed_after s.setup.times old.latest (any_due (interval_at s.setup.times reading) (chains_of s)) reading)) stands.stream_is in
    let accepted : returned_disclosure old reading ≡ Ok (disclosure_frame stream.setup (chains_of stream) interval) = told ∙ ap (disclosed stream) (due_accepted stream old.latest reading later tells.some) in
    let P : Result Frame DiscloseRefusal → Type 0 = λ m. Answers (ok_disclosed size) m before now.frame in
    let written = spells_answered (ok_disclosed size) (ok_frame (disclosure_frame stream.setup (chains_of stream) interval)) before now.frame (subst P accepted answers) in
    let framed_is : made_disclosure stream made.log reading ≡ Ok (disclosure_frame stream.setup (chains_of stream) interval) = ap (disclosed stream) (due_accepted stream (latest_of times made.log) reading (omega (arith, stands.latest, tells.later)) tells.some) in
    let D : Result Frame DiscloseRefusal → List (List ℕ) = λ m. map frame_text (option_to_list (frame_in m)) in
    let datagram : datagram_of stream made.log call ≡ take size now.frame ∷ [] = ap D framed_is ∙ ap (λ (t : List ℕ). t ∷ []) (sym written.spelled) in
    let at : now.sender.latest ≡ interval = ap (λ (s : State). s.latest) sender in
    let used : now.sender.used ≡ number_at old.latest old.used interval = ap (λ (s : State). s.used) sender in
    let counted : number_at old.latest old.used interval ≡ messages_of times interval made.log = number_is stream first feeder made interval stands later in
    let moved : messages_of times now.sender.latest (made.log ++ call ∷ []) ≡ messages_of times interval (made.log ++ call ∷ []) = ap (λ i. messages_of times i (made.log ++ call ∷ [])) at in
    let Q : Feeding → Type 0 = λ a. Makes stream first made a now (Some size) in
    subst Q (sym after) (record {
      stands = record {
        stream_is = ap (λ (s : State). s.stream) sender ∙ stands.stream_is;
        first_is = first_is ∙ stands.first_is;
        from = omega (arith, at, latest_more times made.log call, tells.begun);
        used = omega (arith, used, counted, messages_more times interval made.log call, moved);
        none_later = λ after less. (let none : messages_of times after made.log ≡ 0 = stands.none_later after (omega (arith, later, at, less)) in omega (arith, messages_more times after made.log call, none));
        latest = latest ∙ sym (latest_more times made.log call);
        keys_disclosed = λ chain. disclosed_last times made.log call chain feeder.latest (stands.keys_disclosed chain) tells.later ∙ ap (λ i. index_disclosed i chain) (sym latest);
        message = message ∙ stands.message ∙ sym (last_more times made.log call);
        counts = counts ∙ ap (λ (c : FeedCounts). let it : FeedCounts = record c { disclosures = one_more c.disclosures } in it) stands.counts ∙ sym (disclosure_counts made reading);
      };
      adds = (call, refl, datagram);
    })

-- a message is sent
pub says_sent : (stream : Stream) (first : ℕ) (feeder now : Feeder) (made : Feeding) (reading : ℕ) (payload : List ℕ) (size : ℕ) (before : List ℕ) → StandsFor stream first feeder made
    → Answers (ok_size size) (returned_message feeder.sender reading payload) before now.frame → now.sender ≡ sent_in feeder.sender (interval_at stream.setup.times reading) now.sender.left
    → now.first ≡ feeder.first → now.latest ≡ interval_at stream.setup.times reading → now.message ≡ interval_at stream.setup.times reading → now.counts ≡ record feeder.counts { messages = one_more feeder.counts.messages }
    → Says stream first made reading payload now (ok_size size)
says_sent stream first feeder now made reading payload size before stands answers sender first_is latest message counts =
    let times = stream.setup.times in
    let old = feeder.sender in
    let told : returned_message old reading payload ≡ framed stream payload (name_after times old.latest (number_at old.latest old.used (interval_at times reading)) reading payload) = ap (λ (s : Stream). framed s payload (name_after s.setup.times old.latest (number_at old.latest old.used (interval_at s.setup.times reading)) reading payload)) stands.stream_is in
    let P : Result Frame SendRefusal → Type 0 = λ m. Answers (ok_size size) m before now.frame in
    let found = message_datagram stream first feeder made reading payload size before now.frame stands (subst P told answers) in
    (found.0, found.1, message_stands stream first feeder now made reading payload found.0 stands found.1 sender first_is latest message counts, found.2)

-- a feeder whose sender is this one, with this in its room and these counts
abbrev pub feeder_with : Feeder → State → List ℕ → FeedCounts → Feeder
feeder_with feeder sender frame counts = record { sender = sender; frame = frame; first = feeder.first; latest = feeder.latest; message = feeder.message; counts = counts }

-- a message is refused
pub says_refused : (feeder : Feeder) (made : Feeding) (reading : ℕ) (payload : List ℕ) (refusal : SendRefusal) (frame : List ℕ) (sender : State) (counts : FeedCounts) → StandsFor feeder.sender.stream feeder.first feeder made
    → Answers (err_size refusal) (returned_message feeder.sender reading payload) feeder.frame frame → sender ≡ feeder.sender → counts ≡ after_refusal feeder.counts refusal
    → Says feeder.sender.stream feeder.first made reading payload (feeder_with feeder sender frame counts) (err_size refusal)
says_refused feeder made reading payload refusal frame sender counts stands answers same counted =
    let stream = feeder.sender.stream in
    let first = feeder.first in
    let found = message_refused stream first feeder made reading payload refusal feeder.frame frame stands answers in
    let P : State → Type 0 = λ s. StandsFor stream first (feeder_with feeder s frame counts) (with_refusal made refusal) in
    (found, subst P (sym same) (refused_stands stream first feeder made refusal frame counts counted stands))
