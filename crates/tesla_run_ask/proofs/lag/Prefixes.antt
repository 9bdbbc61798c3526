-- The first bytes of a text, one more than an ask, a reply or a key has, are judged as all of it.
use Rattle.std.proofs.Common.{◌≡◌, ◌∙◌, ◌<◌, ◌≤◌, ℕ, Bool, true, false, eqb, Option, Some, None, Err, List, length, take, nat_lt, refl, sym, ap, arith}
use Rattle.std.proofs.lemmas.Bool.Decides.{nat_tests}
use Rattle.std.proofs.lemmas.List.{take_all, length-take}
use Rattle.tesla_base.specs.declared.names.Key.{Key}
use Rattle.tesla_sync.specs.Ask.{ask_of}
use Rattle.tesla_sync.specs.KeyText.{key_of}
use Rattle.tesla_sync.specs.Reply.{reply_judged}
use Rattle.tesla_sync.specs.declared.reply.SyncRefusal.TheVariants as refusals
use Rattle.tesla_sync.proofs.Asks.{ask_found}
use Rattle.tesla_sync.proofs.Replies.{malformed_only}

-- what is the same of all texts of another length is the same of the first bytes
same_where : {A : Type 0} (f : List ℕ → A) (other : A) (n : ℕ) (text : List ℕ) (long : Bool) → nat_lt n (length text) ≡ long → ((t : List ℕ) → n ≤ length t → f t ≡ other) → f (take n text) ≡ f text
same_where f other n text true e past =
    let above : n < length text = grind (arith, nat_tests) in
    past (take n text) (omega (arith, length-take n text, above)) ∙ sym (past text (omega (arith, above)))
same_where f other n text false e past =
    let within : length text ≤ n = grind (arith, nat_tests) in
    ap f (take_all n text within)

-- ---- asks

no_ask : (text : List ℕ) (time : Option ℕ) → ask_of text ≡ time → 14 ≤ length text → time ≡ None
no_ask text None is long = refl
no_ask text (Some t_r) is long = absurd (let short : length text ≡ 13 = ap length (ask_found text t_r is).spelled in omega (arith, short, long))

pub ask_prefix : (text : List ℕ) → ask_of (take 14 text) ≡ ask_of text
ask_prefix text = same_where ask_of None 14 text (nat_lt 14 (length text)) refl (λ t long. no_ask t (ask_of t) refl long)

-- ---- replies

no_reply : (key : Key) (t_r : ℕ) (text : List ℕ) → 54 ≤ length text → reply_judged text key t_r ≡ Err refusals.Malformed
no_reply key t_r text long = malformed_only text key t_r (λ shape. let whole = shape.whole in omega (arith, whole, long))

pub reply_prefix : (key : Key) (t_r : ℕ) (text : List ℕ) → reply_judged (take 54 text) key t_r ≡ reply_judged text key t_r
reply_prefix key t_r text = same_where (λ t. reply_judged t key t_r) (Err refusals.Malformed) 54 text (nat_lt 54 (length text)) refl (no_reply key t_r)

-- ---- keys

no_key : (text : List ℕ) → 66 ≤ length text → key_of text ≡ None
no_key text long = let test : eqb (length text) 65 ≡ false = grind (arith, nat_tests) in rw test refl

pub key_prefix : (text : List ℕ) → key_of (take 66 text) ≡ key_of text
key_prefix text = same_where key_of None 66 text (nat_lt 66 (length text)) refl no_key
