-- A reply is read exactly where it is spelled, and each refusal has its cause.
use Rattle.std.proofs.Common.{◌≡◌, ◌≢◌, ◌∙◌, ◌<◌, ◌^◌, ℕ, Bool, true, false, cond, eqb, Option, Some, None, Result, Ok, Err, List, length, take, drop, ◌&&◌, refl, sym, ap, subst, arith}
use Rattle.std.specs.Prelude.{IfOk}
use Rattle.std.specs.Str.{bytes_eq}
use Rattle.std.specs.Int.{w64, from_be_bytes, to_be_bytes}
use Rattle.std.proofs.lemmas.Bool.{eqb-true, eqb-false, eq-eqb, false_from_ne_true, ne_eqb}
use Rattle.std.proofs.lemmas.List.{length-append}
use Rattle.std.proofs.lemmas.Nat.{from_be_bytes-to_be_bytes_8}
use Rattle.std.proofs.lemmas.Slice.Eq.{bytes_eq-Decides}
use Rattle.sha2.proofs.Facts256.{length-sha256}
use Rattle.tesla_base.proofs.Prefixes.{some_is}
use Rattle.tesla_base.specs.Field.{number_at}
use Rattle.tesla_base.specs.declared.names.Key.{Key}
use Rattle.tesla_prf.specs.Hmac.{hmac_of}
use Rattle.tesla_sync.specs.Reply.{HasShape, IsReply, both_times, reply_prefix, reply_head, reply_judged, reply_text, times_judged, times_of}
use Rattle.tesla_sync.specs.declared.reply.SyncRefusal.{SyncRefusal}
use Rattle.tesla_sync.specs.declared.reply.SyncRefusal.TheVariants as refusals
use Rattle.tesla_sync.proofs.Asks.{below}

length-hmac_of : (key text : List ℕ) → length (hmac_of key text) ≡ 32
unfolding hmac_of
length-hmac_of key text = length-sha256 _

pub length-reply_text : (key : Key) (t_r t_s : ℕ) → length (reply_text key t_r t_s) ≡ 53
length-reply_text key t_r t_s = omega (arith, length-hmac_of key.0 (reply_prefix t_r t_s), length-append (reply_prefix t_r t_s) (hmac_of key.0 (reply_prefix t_r t_s)))

-- ---- the shape

-- two tests that hold
both_hold : {A : Type 0} (a b : Bool) (o : Option A) (x : A) → cond (a && b) o None ≡ Some x → (a ≡ true) × (b ≡ true) × (o ≡ Some x)
both_hold true true o x h = (refl, refl, h)
both_hold true false o x h = absurd cc
both_hold false b o x h = absurd cc

-- what has times has the shape
shape_of_times : (text : List ℕ) (times : ℕ × ℕ) → times_of text ≡ Some times → HasShape text
shape_of_times text times h =
    let it = both_hold (eqb (length text) 53) (bytes_eq (take 5 text) reply_head) (both_times (number_at w64 text 5) (number_at w64 text 13)) times h in
    record { whole = eqb-true (length text) 53 it.0; begins = (bytes_eq-Decides (take 5 text) reply_head).0 it.1 }

-- what has the shape has times
times_of_shape : (text : List ℕ) → HasShape text → (times : ℕ × ℕ) × (times_of text ≡ Some times)
times_of_shape text shape =
    let head : bytes_eq (take 5 text) reply_head ≡ true = (bytes_eq-Decides (take 5 text) reply_head).1 shape.begins in
    let times : ℕ × ℕ = (from_be_bytes w64 (take 8 (drop 5 text)), from_be_bytes w64 (take 8 (drop 13 text))) in
    (times, rw (shape.whole, head) refl)

-- the times of a reply are those that it spells
times_spelled : (text : List ℕ) (key : Key) (t_r t_s : ℕ) → text ≡ reply_text key t_r t_s → times_of text ≡ Some (from_be_bytes w64 (to_be_bytes w64 t_r), from_be_bytes w64 (to_be_bytes w64 t_s))
times_spelled text key t_r t_s spelled =
    let long = length-reply_text key t_r t_s in
    rw (spelled, long) refl

-- ---- what is judged

-- what a reply spells
times_is : (text : List ℕ) (key : Key) (t_r t_s : ℕ) → IsReply text key t_r t_s → times_of text ≡ Some (t_r, t_s)
times_is text key t_r t_s is =
    let first = from_be_bytes-to_be_bytes_8 t_r is.asked in
    let second = from_be_bytes-to_be_bytes_8 t_s is.read in
    times_spelled text key t_r t_s is.spelled ∙ rw (first, second) refl

-- text that is the spelling of its times is their reply
is_by : (text : List ℕ) (key : Key) (times : ℕ × ℕ) → times_of text ≡ Some times → text ≡ reply_text key times.0 times.1 → IsReply text key times.0 times.1
is_by text key times found spelled =
    let same = some_is (from_be_bytes w64 (to_be_bytes w64 times.0), from_be_bytes w64 (to_be_bytes w64 times.1)) times (sym (times_spelled text key times.0 times.1 spelled) ∙ found) in
    record {
      asked = subst (λ (n : ℕ). n < 2 ^ 64) (ap (λ (p : ℕ × ℕ). p.0) same) (below times.0);
      read = subst (λ (n : ℕ). n < 2 ^ 64) (ap (λ (p : ℕ × ℕ). p.1) same) (below times.1);
      spelled = spelled;
    }

-- what comes of the test of the spelling and of the ask
abbrev outcome : Bool → Bool → ℕ → ℕ → Result ℕ SyncRefusal
outcome spelled own asked t_s = cond spelled (cond own (Ok t_s) (Err (refusals.OtherAsk asked))) (Err refusals.BadTag)

read_parts : (spelled own : Bool) (asked t_s said : ℕ) → outcome spelled own asked t_s ≡ Ok said → (spelled ≡ true) × (own ≡ true) × (t_s ≡ said)
read_parts true true asked t_s said h = (refl, refl, cc)
read_parts true false asked t_s said h = absurd cc
read_parts false own asked t_s said h = absurd cc

other_parts : (spelled own : Bool) (asked t_s said : ℕ) → outcome spelled own asked t_s ≡ Err (refusals.OtherAsk said) → (spelled ≡ true) × (own ≡ false) × (asked ≡ said)
other_parts true true asked t_s said h = absurd cc
other_parts true false asked t_s said h = (refl, refl, cc)
other_parts false own asked t_s said h = absurd cc

bad_parts : (spelled own : Bool) (asked t_s : ℕ) → outcome spelled own asked t_s ≡ Err refusals.BadTag → spelled ≡ false
bad_parts true true asked t_s h = absurd cc
bad_parts true false asked t_s h = absurd cc
bad_parts false own asked t_s h = refl

not_malformed : (spelled own : Bool) (asked t_s : ℕ) → outcome spelled own asked t_s ≡ Err refusals.Malformed → ⊥
not_malformed true true asked t_s h = cc
not_malformed true false asked t_s h = cc
not_malformed false own asked t_s h = cc

-- a text that is judged so and is not malformed has times
record Judges (text : List ℕ) (key : Key) (t_r : ℕ) (said : Result ℕ SyncRefusal) : Type 0 where
  pub times : ℕ × ℕ
  pub found : times_of text ≡ Some times
  pub judged : outcome (bytes_eq text (reply_text key times.0 times.1)) (eqb times.0 t_r) times.0 times.1 ≡ said

judges_by : (text : List ℕ) (key : Key) (t_r : ℕ) (times : Option (ℕ × ℕ)) (said : Result ℕ SyncRefusal) → times_of text ≡ times → times_judged text key t_r times ≡ said → said ≢ Err refusals.Malformed → Judges text key t_r said
judges_by text key t_r None said is h other = absurd (other (sym h))
judges_by text key t_r (Some times) said is h other = record { times = times; found = is; judged = h }

judges : (text : List ℕ) (key : Key) (t_r : ℕ) (said : Result ℕ SyncRefusal) → reply_judged text key t_r ≡ said → said ≢ Err refusals.Malformed → Judges text key t_r said
judges text key t_r said h other = judges_by text key t_r (times_of text) said refl h other

spelled_true : (text : List ℕ) (key : Key) (t_r t_s : ℕ) → bytes_eq text (reply_text key t_r t_s) ≡ true → text ≡ reply_text key t_r t_s
spelled_true text key t_r t_s = (bytes_eq-Decides text (reply_text key t_r t_s)).0

-- what is read is spelled so
pub reply_found : (text : List ℕ) (key : Key) (t_r t_s : ℕ) → reply_judged text key t_r ≡ Ok t_s → IsReply text key t_r t_s
reply_found text key t_r t_s h =
    let it = judges text key t_r (Ok t_s) h (λ e. cc) in
    let parts = read_parts (bytes_eq text (reply_text key it.times.0 it.times.1)) (eqb it.times.0 t_r) it.times.0 it.times.1 t_s it.judged in
    let is = is_by text key it.times it.found (spelled_true text key it.times.0 it.times.1 parts.0) in
    subst (λ (n : ℕ). IsReply text key n t_s) (eqb-true it.times.0 t_r parts.1) (subst (λ (n : ℕ). IsReply text key it.times.0 n) parts.2 is)

-- what is spelled so is read
pub reply_only : (text : List ℕ) (key : Key) (t_r t_s : ℕ) → IsReply text key t_r t_s → reply_judged text key t_r ≡ Ok t_s
reply_only text key t_r t_s is =
    let same : bytes_eq text (reply_text key t_r t_s) ≡ true = (bytes_eq-Decides text (reply_text key t_r t_s)).1 is.spelled in
    ap (times_judged text key t_r) (times_is text key t_r t_s is) ∙ (rw (same, eq-eqb t_r t_r refl) refl)

-- ---- refusals

-- a malformed reply has another length or another head
pub malformed : (text : List ℕ) (key : Key) (t_r : ℕ) → reply_judged text key t_r ≡ Err refusals.Malformed → HasShape text → ⊥
malformed text key t_r h shape =
    let it = times_of_shape text shape in
    not_malformed (bytes_eq text (reply_text key it.0.0 it.0.1)) (eqb it.0.0 t_r) it.0.0 it.0.1 (ap (times_judged text key t_r) (sym it.1) ∙ h)

none_by : (text : List ℕ) (times : Option (ℕ × ℕ)) → times_of text ≡ times → (HasShape text → ⊥) → times ≡ None
none_by text None is none = refl
none_by text (Some times) is none = absurd (none (shape_of_times text times is))

pub malformed_only : (text : List ℕ) (key : Key) (t_r : ℕ) → (HasShape text → ⊥) → reply_judged text key t_r ≡ Err refusals.Malformed
malformed_only text key t_r none = ap (times_judged text key t_r) (none_by text (times_of text) refl none)

-- a text whose times were tested is the reply of no others
only_times : (text : List ℕ) (key : Key) (times : ℕ × ℕ) (asked t_s : ℕ) → times_of text ≡ Some times → bytes_eq text (reply_text key times.0 times.1) ≡ false → IsReply text key asked t_s → ⊥
only_times text key times asked t_s found test is =
    let same : (asked, t_s) ≡ times = some_is (asked, t_s) times (sym (times_is text key asked t_s is) ∙ found) in
    let yes : bytes_eq text (reply_text key times.0 times.1) ≡ true = (bytes_eq-Decides text (reply_text key times.0 times.1)).1 (is.spelled ∙ ap (λ (p : ℕ × ℕ). reply_text key p.0 p.1) same) in
    let no : true ≡ false = sym yes ∙ test in cc

-- a reply with a bad tag has the length and the head, and is the reply of no times under the key
pub bad_tag : (text : List ℕ) (key : Key) (t_r : ℕ) → reply_judged text key t_r ≡ Err refusals.BadTag → HasShape text × ((asked t_s : ℕ) → IsReply text key asked t_s → ⊥)
bad_tag text key t_r h =
    let it = judges text key t_r (Err refusals.BadTag) h (λ e. cc) in
    let test = bad_parts (bytes_eq text (reply_text key it.times.0 it.times.1)) (eqb it.times.0 t_r) it.times.0 it.times.1 it.judged in
    (shape_of_times text it.times it.found, λ asked t_s is. only_times text key it.times asked t_s it.found test is)

pub bad_tag_only : (text : List ℕ) (key : Key) (t_r : ℕ) → HasShape text → ((asked t_s : ℕ) → IsReply text key asked t_s → ⊥) → reply_judged text key t_r ≡ Err refusals.BadTag
bad_tag_only text key t_r shape none =
    let it = times_of_shape text shape in
    let test : bytes_eq text (reply_text key it.0.0 it.0.1) ≡ false =
    false_from_ne_true _ (λ yes. none it.0.0 it.0.1 (is_by text key it.0 it.1 (spelled_true text key it.0.0 it.0.1 yes))) in
    ap (times_judged text key t_r) it.1 ∙ (rw test refl)

-- a reply to another ask is a reply under the key, to the ask that is told
pub other : (text : List ℕ) (key : Key) (t_r asked : ℕ) → reply_judged text key t_r ≡ Err (refusals.OtherAsk asked) → (asked ≢ t_r) × (t_s : ℕ) × IsReply text key asked t_s
other text key t_r asked h =
    let it = judges text key t_r (Err (refusals.OtherAsk asked)) h (λ e. cc) in
    let parts = other_parts (bytes_eq text (reply_text key it.times.0 it.times.1)) (eqb it.times.0 t_r) it.times.0 it.times.1 asked it.judged in
    let is = is_by text key it.times it.found (spelled_true text key it.times.0 it.times.1 parts.0) in
    (λ e. eqb-false it.times.0 t_r parts.1 (parts.2 ∙ e), it.times.1, subst (λ (n : ℕ). IsReply text key n it.times.1) parts.2 is)

pub other_only : (text : List ℕ) (key : Key) (t_r asked t_s : ℕ) → asked ≢ t_r → IsReply text key asked t_s → reply_judged text key t_r ≡ Err (refusals.OtherAsk asked)
other_only text key t_r asked t_s differs is =
    let same : bytes_eq text (reply_text key asked t_s) ≡ true = (bytes_eq-Decides text (reply_text key asked t_s)).1 is.spelled in
    ap (times_judged text key t_r) (times_is text key asked t_s is) ∙ (rw (same, ne_eqb asked t_r differs) refl)

-- what is read, if any, is spelled so
pub reply_read : (text : List ℕ) (key : Key) (t_r : ℕ) (result : Result ℕ SyncRefusal) → result ≡ reply_judged text key t_r → IfOk result (λ t_s. IsReply text key t_r t_s)
reply_read text key t_r (Ok t_s) is = reply_found text key t_r t_s (sym is)
reply_read text key t_r (Err why) is = tt
