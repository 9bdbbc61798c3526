-- The first bytes of a text, one more than an ask or a key has, tell whether all of it is one.
use Rattle.std.proofs.Common.{◌≡◌, ◌<◌, ℕ, List, length, take, sym, ap, subst, arith}
use Rattle.std.proofs.lemmas.List.{take_all, length-take, length-append}
use Rattle.hex.specs.Hex.{encode_lower, lower_digits}
use Rattle.hex.proofs.HexLemmas.{length-encode_with}
use Rattle.std.specs.Prelude.{codes}
use Rattle.tesla_base.specs.declared.names.Key.{Key}
use Rattle.tesla_desk.specs.Outside.{Page, Untold, Absent, Holds}
use Rattle.tesla_front.specs.Files.{HoldsWhere, ReadsFile}
use Rattle.tesla_sync.specs.Ask.{IsAsk}
use Rattle.tesla_sync.specs.KeyText.{IsKeyText}
use Rattle.tesla_run_ask.specs.Replying.{IsNoAsk, IsNoKey, IsThere}

-- a text whose first bytes are fewer than were asked for is these bytes
prefix_is : (most : ℕ) (text : List ℕ) → length (take most text) < most → take most text ≡ text
prefix_is most text short = take_all most text (omega (arith, length-take most text, short))

-- ---- asks

ask_long : (text : List ℕ) (t_r : ℕ) → IsAsk text t_r → length text ≡ 13
ask_long text t_r is = ap length is.spelled

ask_prefix : (text : List ℕ) (t_r : ℕ) → IsAsk (take 14 text) t_r → IsAsk text t_r
ask_prefix text t_r is =
    let long = ask_long (take 14 text) t_r is in
    subst (λ (t : List ℕ). IsAsk t t_r) (prefix_is 14 text (omega (arith, long))) is

no_ask_prefix : (text : List ℕ) → IsNoAsk (take 14 text) → IsNoAsk text
no_ask_prefix text none t_r is =
    let long = ask_long text t_r is in
    none t_r (subst (λ (t : List ℕ). IsAsk t t_r) (sym (take_all 14 text (omega (arith, long)))) is)

-- ---- keys

key_long : (text : List ℕ) (key : Key) → IsKeyText text key → length text ≡ 65
key_long text key is =
    let whole = is.whole in
    let long = ap length is.spelled in
    omega (arith, long, whole, length-encode_with lower_digits key.0, length-append (encode_lower key.0) (codes "\n"))

key_prefix : (text : List ℕ) (key : Key) → IsKeyText (take 66 text) key → IsKeyText text key
key_prefix text key is =
    let long = key_long (take 66 text) key is in
    subst (λ (t : List ℕ). IsKeyText t key) (prefix_is 66 text (omega (arith, long))) is

no_key_prefix : (text : List ℕ) → IsNoKey (take 66 text) → IsNoKey text
no_key_prefix text none key is =
    let long = key_long text key is in
    none key (subst (λ (t : List ℕ). IsKeyText t key) (sym (take_all 66 text (omega (arith, long)))) is)

-- ---- files

of_prefix_in : (Fact : List ℕ → Type 0) (most : ℕ) (page : Page) (read : List ℕ) → ((text : List ℕ) → Fact (take most text) → Fact text) → ReadsFile most page read → Fact read → HoldsWhere page Fact
of_prefix_in Fact most Untold read prefix reads is = tt
of_prefix_in Fact most Absent read prefix reads is = reads
of_prefix_in Fact most (Holds text failed) read prefix reads is = prefix text (subst (λ (r : List ℕ). Fact r) reads is)

-- what was read is the ask of the file
pub ask_in : (page : Page) (read : List ℕ) (t_r : ℕ) → ReadsFile 14 page read → IsAsk read t_r → HoldsWhere page (λ text. IsAsk text t_r)
ask_in page read t_r reads is = of_prefix_in (λ text. IsAsk text t_r) 14 page read (λ text. ask_prefix text t_r) reads is

-- what was read is no ask, and neither is the file
pub no_ask_in : (page : Page) (read : List ℕ) → ReadsFile 14 page read → IsNoAsk read → HoldsWhere page IsNoAsk
no_ask_in page read reads none = of_prefix_in IsNoAsk 14 page read no_ask_prefix reads none

-- what was read is the key of the file
pub key_in : (page : Page) (read : List ℕ) (key : Key) → ReadsFile 66 page read → IsKeyText read key → HoldsWhere page (λ text. IsKeyText text key)
key_in page read key reads is = of_prefix_in (λ text. IsKeyText text key) 66 page read (λ text. key_prefix text key) reads is

-- what was read is no key, and neither is the file
pub no_key_in : (page : Page) (read : List ℕ) → ReadsFile 66 page read → IsNoKey read → HoldsWhere page IsNoKey
no_key_in page read reads none = of_prefix_in IsNoKey 66 page read no_key_prefix reads none

-- a file that was read is there
pub there : (most : ℕ) (page : Page) (read : List ℕ) → ReadsFile most page read → IsThere page
there most page read reads = of_prefix_in (λ text. Unit {0}) most page read (λ text it. it) reads tt
