-- What is kept of the promises that were learnt, with each entry of a history.
use Rattle.std.proofs.Common.{◌≡◌, ℕ, zero, suc, ◌||◌, ◌+◌, ◌-◌, Bool, true, false, cond, List, [], ◌∷◌, ◌++◌, length, map, take, drop, Some, None, Option, refl, sym, ap, ◌∙◌, arith}
use Rattle.std.specs.List.{list_any}
use Rattle.std.proofs.Math.Seq.{drop-append_seam}
use Rattle.std.proofs.lemmas.List.{append-nil, drop-append-le, drop-drop, drop-map, length-append, length-drop, length-map, length-take-le, map-append}
use Rattle.sha2.specs.Sha256.{sha256}
use Rattle.tesla_base.specs.declared.names.Name.{Name}
use Rattle.tesla_fitting.specs.declared.verdict.Verdict.{Verdict}
use Rattle.tesla_early.specs.Payloads.{promise_of}
use Rattle.tesla_early.specs.declared.promise.Promise.{Promise}
use Rattle.tesla_receiver.specs.History.{Arrives, Ends, Takes, entry_of, reply_to}
use Rattle.tesla_receiver.specs.Stands.{Stands}
use Rattle.tesla_receiver.specs.Entries.{Arrival, Entry}
use Rattle.tesla_receiver.specs.declared.history.Entry.TheVariants.{Arrived, Ended}
use Rattle.tesla_state.specs.declared.replies.Reply.{Reply}
use Rattle.tesla_state.specs.declared.replies.Reply.TheVariants as replies
use Rattle.tesla_early.specs.Early.{Message, accepted, candidate, given_learnt, is_early, is_promised, learnt, learnt_with}
use Rattle.tesla_early.specs.Kept.{is_of_message, is_promised_by, kept_accepted, kept_after, kept_with, use_first_kept}
use Rattle.tesla_early.specs.Learnt.{Learnt, is_kept_by, last_of, on_last, taught_with, use_first}
use Rattle.tesla_early.specs.Stands.{EarlyStands, EarlyState, Kept, PromiseState, kept_of}
use Rattle.tesla_early.proofs.Learnt.{learnt_more}

-- ---- the last of a list

-- the last of a list with others behind it are those of its last with them
last_joined : {A : Type 0} (most : ℕ) (xs ys : List A) → last_of most (xs ++ ys) ≡ last_of most (last_of most xs ++ ys)
last_joined most xs ys =
    let n = length xs - most in
    let all = xs ++ ys in
    let size = length-drop n all in
    let both = length-append xs ys in
    let prefix : drop n xs ++ ys ≡ drop n all = sym (drop-append-le n xs ys (omega arith)) in
    let count : n + (length (drop n all) - most) ≡ length all - most = omega arith in
    sym (ap (last_of most) prefix ∙ drop-drop (length (drop n all) - most) n all ∙ ap (λ k. drop k all) count)

-- a function of each
last_map : {A B : Type 0} (f : A → B) (most : ℕ) (xs : List A) → last_of most (map f xs) ≡ map f (last_of most xs)
last_map f most xs = ap (λ n. drop (n - most) (map f xs)) (length-map xs f) ∙ drop-map f (length xs - most) xs

-- a change of the last ones that leaves their number
last_changed : {A : Type 0} (most : ℕ) (change : List A → List A) (xs : List A) → ((ys : List A) → length (change ys) ≡ length ys) → last_of most (on_last most change xs) ≡ change (last_of most xs)
last_changed most change xs same =
    let n = length xs - most in
    let prefix = take n xs in
    let rest = change (drop n xs) in
    let size = length-take-le n xs (omega arith) in
    let behind = same (drop n xs) in
    let left = length-drop n xs in
    let whole = length-append prefix rest in
    let count : length (prefix ++ rest) - most ≡ length prefix = omega arith in
    ap (λ k. drop k (prefix ++ rest)) count ∙ drop-append_seam prefix rest

-- none of an empty list
pub none_last : {A : Type 0} (n : ℕ) (none : List A) → none ≡ [] → drop n none ≡ []
none_last zero none h = h
none_last (suc n) none h = ap (drop (suc n)) h

-- ---- what is kept of promises that were learnt

-- the tests agree
any_kept : (name : Name) (hash : List ℕ) (ls : List Learnt) → list_any (is_of_message name hash) (map kept_of ls) ≡ list_any (is_kept_by name hash) ls
any_kept name hash [] = refl
any_kept name hash (l ∷ ls) = ap (λ b. is_kept_by name hash l || b) (any_kept name hash ls)

used_kept : (name : Name) (hash : List ℕ) (ls : List Learnt) → use_first_kept (is_of_message name hash) (map kept_of ls) ≡ map kept_of (use_first (is_kept_by name hash) ls)
used_kept name hash [] = refl
used_kept name hash (l ∷ ls) =
    let others = use_first (is_kept_by name hash) ls in
    ap (λ ks. cond (is_kept_by name hash l) (kept_of (record l { used = true }) ∷ map kept_of ls) (kept_of l ∷ ks)) (used_kept name hash ls)
    ∙ (elim (is_kept_by name hash l) as (λ b. cond b (kept_of (record l { used = true }) ∷ map kept_of ls) (kept_of l ∷ map kept_of others) ≡ map kept_of (cond b (record l { used = true } ∷ ls) (l ∷ others))) [ true ↦ refl | false ↦ refl ])

-- a use leaves the number of promises
used_count : (test : Learnt → Bool) (ls : List Learnt) → length (use_first test ls) ≡ length ls
used_count test [] = refl
used_count test (l ∷ ls) =
    let rest = used_count test ls in
    elim (test l) as (λ b. length (cond b (record l { used = true } ∷ ls) (l ∷ use_first test ls)) ≡ length (l ∷ ls)) [ true ↦ refl | false ↦ ap suc rest ]

-- one more that was taught, or none
kept_taught : (most entry : ℕ) (ls : List Learnt) (kept : List Kept) (promise : Option Promise) → kept ≡ map kept_of (last_of most ls) → kept_with most kept promise ≡ map kept_of (last_of most (ls ++ taught_with entry promise))
kept_taught most entry ls kept (Some promise) same =
    let one : Learnt = record { entry = entry; promise = promise; used = false } in
    ap (λ ks. last_of most (ks ++ kept_of one ∷ [])) same
    ∙ ap (last_of most) (sym (map-append kept_of (last_of most ls) (one ∷ [])))
    ∙ last_map kept_of most (last_of most ls ++ one ∷ [])
    ∙ ap (map kept_of) (sym (last_joined most ls (one ∷ [])))
kept_taught most entry ls kept None same = same ∙ ap (λ xs. map kept_of (last_of most xs)) (sym (append-nil ls))

-- a message is promised by what is kept where it is by what was learnt
pub promised_kept : (most : ℕ) (ls : List Learnt) (kept : List Kept) (message : Option Message) → kept ≡ map kept_of (last_of most ls) → is_promised_by kept message ≡ is_promised most ls message
promised_kept most ls kept (Some message) same =
    let hash = sha256 message.payload in
    ap (list_any (is_of_message message.name hash)) same ∙ any_kept message.name hash (last_of most ls)
promised_kept most ls kept None same = refl

-- a message was accepted
kept_accepted_is : (most entry : ℕ) (ls : List Learnt) (kept : List Kept) (message : Option Message) → kept ≡ map kept_of (last_of most ls) → kept_accepted most kept message ≡ map kept_of (last_of most (accepted most ls entry message))
kept_accepted_is most entry ls kept (Some message) same =
    let hash = sha256 message.payload in
    let test = is_kept_by message.name hash in
    kept_taught most entry (on_last most (use_first test) ls) (use_first_kept (is_of_message message.name hash) kept) (promise_of message.payload)
    (ap (use_first_kept (is_of_message message.name hash)) same ∙ used_kept message.name hash (last_of most ls)
    ∙ ap (map kept_of) (sym (last_changed most (use_first test) ls (used_count test))))
kept_accepted_is most entry ls kept None same = same

-- a message came
pub kept_with_message : (most entry : ℕ) (ls : List Learnt) (kept : List Kept) (message : Option Message) → kept ≡ map kept_of (last_of most ls) → kept_after most kept message ≡ map kept_of (last_of most (cond (is_promised most ls message) (accepted most ls entry message) ls))
kept_with_message most entry ls kept message same =
    ap (λ b. cond b (kept_accepted most kept message) kept) (promised_kept most ls kept message same)
    ∙ (elim (is_promised most ls message) as (λ b. cond b (kept_accepted most kept message) kept ≡ map kept_of (last_of most (cond b (accepted most ls entry message) ls))) [ true ↦ kept_accepted_is most entry ls kept message same | false ↦ same ])

-- ---- one entry more

-- what a take gives is learnt
abbrev pub kept_given : ℕ → List Kept → Reply → List Kept
kept_given most kept (replies.Given head payload) = kept_with most kept (promise_of payload)
kept_given most kept replies.Empty = kept
kept_given most kept replies.Over = kept

pub kept_taken : (most entry : ℕ) (ls : List Learnt) (kept : List Kept) (reply : Reply) → kept ≡ map kept_of (last_of most ls) → kept_given most kept reply ≡ map kept_of (last_of most (given_learnt ls entry reply))
kept_taken most entry ls kept (replies.Given head payload) same = kept_taught most entry ls kept (promise_of payload) same
kept_taken most entry ls kept replies.Empty same = same
kept_taken most entry ls kept replies.Over same = same

-- it stands for a history with one entry more where its receiver does, and its promises are those after the entry
more_stands : (state after : EarlyState) (h : List Entry) (e : Entry) → Stands after.receiver (h ++ e ∷ []) → after.promises.most ≡ state.promises.most
    → after.promises.kept ≡ map kept_of (last_of state.promises.most (learnt_with state.promises.most (learnt state.promises.most h) (length h) e)) → EarlyStands after (h ++ e ∷ [])
more_stands state after h e receiver most kept = record {
  receiver = receiver;
  promises =
      kept ∙ ap (λ ls. map kept_of (last_of state.promises.most ls)) (sym (learnt_more state.promises.most h e))
      ∙ ap (λ n. map kept_of (last_of n (learnt n (h ++ e ∷ [])))) (sym most);
}

-- an arrival
pub arrived_stands : (state after : EarlyState) (h : List Entry) (ingest reading : ℕ) (bytes : List ℕ) (verdict : Verdict)
    → EarlyStands state h → Arrived (record { ingest = ingest; reading = reading; bytes = bytes; verdict = verdict }) ≡ entry_of state.receiver.config h (Arrives ingest reading bytes)
    → Stands after.receiver (h ++ entry_of state.receiver.config h (Arrives ingest reading bytes) ∷ []) → after.promises.most ≡ state.promises.most
    → after.promises.kept ≡ kept_after state.promises.most state.promises.kept (candidate (record { ingest = ingest; reading = reading; bytes = bytes; verdict = verdict }))
    → EarlyStands after (h ++ entry_of state.receiver.config h (Arrives ingest reading bytes) ∷ [])
arrived_stands state after h ingest reading bytes verdict st answer receiver most kept =
    let arrival : Arrival = record { ingest = ingest; reading = reading; bytes = bytes; verdict = verdict } in
    more_stands state after h (entry_of state.receiver.config h (Arrives ingest reading bytes)) receiver most
    (kept ∙ kept_with_message state.promises.most (length h) (learnt state.promises.most h) state.promises.kept (candidate arrival) st.promises
    ∙ ap (λ (e : Entry). map kept_of (last_of state.promises.most (learnt_with state.promises.most (learnt state.promises.most h) (length h) e))) answer)

-- it is early
pub arrived_early : (state : EarlyState) (h : List Entry) (arrival : Arrival) → EarlyStands state h → is_promised_by state.promises.kept (candidate arrival) ≡ is_early state.promises.most h arrival
arrived_early state h arrival st = promised_kept state.promises.most (learnt state.promises.most h) state.promises.kept (candidate arrival) st.promises

-- a take
pub taken_stands : (state after : EarlyState) (h : List Entry) (releaser : ℕ) (reply : Reply)
    → EarlyStands state h → reply ≡ reply_to state.receiver.config h
    → Stands after.receiver (h ++ entry_of state.receiver.config h (Takes releaser) ∷ []) → after.promises.most ≡ state.promises.most
    → after.promises.kept ≡ kept_given state.promises.most state.promises.kept reply
    → EarlyStands after (h ++ entry_of state.receiver.config h (Takes releaser) ∷ [])
taken_stands state after h releaser reply st answer receiver most kept =
    more_stands state after h (entry_of state.receiver.config h (Takes releaser)) receiver most
    (kept ∙ kept_taken state.promises.most (length h) (learnt state.promises.most h) state.promises.kept reply st.promises
    ∙ ap (λ (r : Reply). map kept_of (last_of state.promises.most (given_learnt (learnt state.promises.most h) (length h) r))) answer)

-- an end
pub ended_stands : (state after : EarlyState) (h : List Entry) (ingest : ℕ)
    → EarlyStands state h → Stands after.receiver (h ++ entry_of state.receiver.config h (Ends ingest) ∷ []) → after.promises ≡ state.promises
    → EarlyStands after (h ++ entry_of state.receiver.config h (Ends ingest) ∷ [])
ended_stands state after h ingest st receiver same =
    more_stands state after h (Ended ingest) receiver (ap (λ (p : PromiseState). p.most) same)
    (ap (λ (p : PromiseState). p.kept) same ∙ st.promises)

-- nothing was learnt in the empty history
pub none_stands : (state : EarlyState) → Stands state.receiver [] → state.promises.kept ≡ [] → EarlyStands state []
unfolding learnt
none_stands state receiver none = record {
  receiver = receiver;
  promises = none ∙ ap (map kept_of) (sym (let none_kept : last_of state.promises.most (learnt state.promises.most []) ≡ [] = none_last (length (learnt state.promises.most []) - state.promises.most) (learnt state.promises.most []) refl in none_kept));
}
