-- The frames of a sender, from the values that are written.
use Rattle.std.proofs.Common.{◌≡◌, ℕ, ◌+◌, ◌-◌, ◌≤◌, ◌||◌, Bool, true, false, List, [], ◌∷◌, ◌++◌, length, map, take, Option, refl, sym, ◌∙◌, ap, subst, zero-add, arith}
use Rattle.std.specs.Prelude.{nat_lt, if◌then◌else◌, min}
use Rattle.std.specs.List.{AllByRecursion}
use Rattle.tesla_base.specs.Tag.{tag_bytes}
use Rattle.tesla_base.specs.Version.{number_of, version_named}
use Rattle.tesla_base.specs.declared.names.Key.{Key}
use Rattle.tesla_base.specs.declared.names.Name.{Name}
use Rattle.tesla_base.specs.declared.names.StreamId.{StreamId}
use Rattle.tesla_base.specs.declared.names.WideTag.{WideTag}
use Rattle.tesla_base.specs.declared.version.Version.{Version}
use Rattle.tesla_base.specs.declared.version.Version.TheVariants.{One, Two}
use Rattle.tesla_base.proofs.Tags.{bytes_of_wide}
use Rattle.tesla_commit.specs.Parts.{Parts}
use Rattle.tesla_frame.specs.Frame.{ChainsRise, Frame, Data, TagRow}
use Rattle.tesla_frame.specs.Written.{HasLength, data_frame, first_length, keys_frame, rows_of}
use Rattle.tesla_frame.specs.declared.row.KeyRow.{KeyRow}
use Rattle.tesla_sender.specs.Made.{Chain, any_due, disclosure_frame, due_row, due_rows, key_due, key_of, message_frame, row_of}
use Rattle.tesla_sender.specs.Chains.{AreNumbered, tag_made}

-- ---- the values that are written

-- what was put from the first place on
pub put_first : {A : Type 0} (n m : ℕ) (old now ys : List A) → m ≡ n → take (0 + n) now ≡ take 0 old ++ ys → take m now ≡ ys
put_first n m old now ys same put = ap (λ k. take k now) (same ∙ sym (zero-add n)) ∙ put

-- the version of a version's number
pub version_back : (version : Version) → version_named (number_of version) ≡ version
version_back One = refl
version_back Two = refl

-- ---- messages

made_bytes : (setup : Parts) (name : Name) (payload : List ℕ) (chain : Chain) → tag_bytes (tag_made setup name payload chain) ≡ (row_of setup name payload chain).tag
unfolding tag_made
made_bytes setup name payload chain = bytes_of_wide (row_of setup name payload chain).tag

-- the length of the first tag is that of each
pub tags_first : (size : ℕ) (tags : List WideTag) → 1 ≤ length tags → AllByRecursion (HasLength size) tags → first_length tags ≡ size
tags_first size [] some each = absurd (omega arith)
tags_first size (tag ∷ tags) some each = each.0

-- the same by the length of the first one
pub tags_each_first : (size : ℕ) (tags : List WideTag) → 1 ≤ length tags → AllByRecursion (HasLength size) tags → AllByRecursion (HasLength (first_length tags)) tags
tags_each_first size tags some each = subst (λ n. AllByRecursion (HasLength n) tags) (sym (tags_first size tags some each)) each

rows_made : (setup : Parts) (name : Name) (payload : List ℕ) (chains : List Chain) → rows_of (map (tag_made setup name payload) chains) (map (key_due name.interval) chains) ≡ map (row_of setup name payload) chains
rows_made setup name payload [] = refl
rows_made setup name payload (chain ∷ chains) =
    let rest = rows_made setup name payload chains in
    let first : List ℕ → TagRow = λ tag. record { tag = tag; key = key_due name.interval chain } in
    ap (λ tag. first tag ∷ rows_of (map (tag_made setup name payload) chains) (map (key_due name.interval) chains)) (made_bytes setup name payload chain)
    ∙ ap (λ rows. row_of setup name payload chain ∷ rows) rest

abbrev message_with : Parts → Name → List ℕ → ℕ → List TagRow → Frame
message_with setup name payload size rows = Data (record { version = setup.version; stream = setup.stream; name = name; payload = payload; tag_length = size; rows = rows })

-- the frame of a message, from its tags and keys
pub message_is : (setup : Parts) (name : Name) (payload : List ℕ) (chains : List Chain) (version : Version) (stream : StreamId) (tags : List WideTag) (keys : List (Option Key)) → first_length (map (tag_made setup name payload) chains) ≡ setup.tag_length → version ≡ setup.version → stream ≡ setup.stream → tags ≡ map (tag_made setup name payload) chains → keys ≡ map (key_due name.interval) chains → data_frame version stream name payload tags keys ≡ message_frame setup chains name payload
unfolding message_frame
message_is setup name payload chains version stream tags keys size same_version same_stream made due =
    let each = map (tag_made setup name payload) chains in
    ap (λ v. data_frame v stream name payload tags keys) same_version
    ∙ ap (λ s. data_frame setup.version s name payload tags keys) same_stream
    ∙ ap (λ ts. data_frame setup.version setup.stream name payload ts keys) made
    ∙ ap (λ ks. data_frame setup.version setup.stream name payload each ks) due
    ∙ ap (λ n. message_with setup name payload n (rows_of each (map (key_due name.interval) chains))) size
    ∙ ap (λ rows. message_with setup name payload setup.tag_length rows) (rows_made setup name payload chains)

-- ---- disclosures

rise_more : (row : KeyRow) (rows : List KeyRow) → AllByRecursion (λ next. row.chain.0 + 1 ≤ next.chain.0) rows → ChainsRise rows → ChainsRise (row ∷ rows)
rise_more row [] above rise = tt
rise_more row (next ∷ rows) above rise = (omega (arith, above.0), rise)

abbrev row_due : ℕ → Chain → KeyRow
row_due interval chain = record { chain = record { 0 = chain.number }; index = min (interval - chain.row.delay) chain.last; key = key_of chain.last chain.seed (min (interval - chain.row.delay) chain.last) }

due_step : (least interval : ℕ) (chain : Chain) (rows : List KeyRow) → least ≤ chain.number → AllByRecursion (λ (row : KeyRow). least ≤ row.chain.0) rows → AllByRecursion (λ (row : KeyRow). least ≤ row.chain.0) (due_row interval chain ++ rows)
due_step least interval chain rows here rest =
    elim (nat_lt chain.row.delay interval) as (λ due. AllByRecursion (λ (row : KeyRow). least ≤ row.chain.0) ((if due then row_due interval chain ∷ [] else []) ++ rows)) [ true ↦ (here, rest) | false ↦ rest ]

rise_step : (interval : ℕ) (chain : Chain) (rows : List KeyRow) → AllByRecursion (λ (row : KeyRow). chain.number + 1 ≤ row.chain.0) rows → ChainsRise rows → ChainsRise (due_row interval chain ++ rows)
rise_step interval chain rows above rise =
    elim (nat_lt chain.row.delay interval) as (λ due. ChainsRise ((if due then row_due interval chain ∷ [] else []) ++ rows)) [ true ↦ rise_more (row_due interval chain) rows above rise | false ↦ rise ]

due_above : (least number interval : ℕ) (chains : List Chain) → least ≤ number → AreNumbered number chains → AllByRecursion (λ (row : KeyRow). least ≤ row.chain.0) (due_rows chains interval)
due_above least number interval [] h numbered = tt
due_above least number interval (chain ∷ chains) h numbered =
    let rest = due_above least (number + 1) interval chains (omega arith) numbered.1 in
    let here : least ≤ chain.number = omega (arith, numbered.0) in
    due_step least interval chain (due_rows chains interval) here rest

-- the chains of a disclosure rise
pub due_rise : (number interval : ℕ) (chains : List Chain) → AreNumbered number chains → ChainsRise (due_rows chains interval)
due_rise number interval [] numbered = tt
due_rise number interval (chain ∷ chains) numbered =
    let rest = due_rise (number + 1) interval chains numbered.1 in
    let above = due_above (chain.number + 1) (number + 1) interval chains (omega (arith, numbered.0)) numbered.1 in
    rise_step interval chain (due_rows chains interval) above rest

some_step : (interval : ℕ) (chain : Chain) (due others : Bool) (rows : List KeyRow) → (due || others) ≡ true → (others ≡ true → 1 ≤ length rows) → 1 ≤ length ((if due then row_due interval chain ∷ [] else []) ++ rows)
some_step interval chain true others rows some rest = omega arith
some_step interval chain false others rows some rest = rest some

-- a disclosure in an interval in which some chain is due has a row
pub due_some : (interval : ℕ) (chains : List Chain) → any_due interval chains ≡ true → 1 ≤ length (due_rows chains interval)
due_some interval [] due = absurd cc
due_some interval (chain ∷ chains) due = some_step interval chain (nat_lt chain.row.delay interval) (any_due interval chains) (due_rows chains interval) due (due_some interval chains)

-- the frame of a disclosure, from its rows
pub disclosure_is : (setup : Parts) (interval : ℕ) (chains : List Chain) (version : Version) (stream : StreamId) (rows : List KeyRow) → version ≡ setup.version → stream ≡ setup.stream → rows ≡ due_rows chains interval → keys_frame version stream rows ≡ disclosure_frame setup chains interval
unfolding disclosure_frame
disclosure_is setup interval chains version stream rows same_version same_stream due =
    ap (λ v. keys_frame v stream rows) same_version
    ∙ ap (λ s. keys_frame setup.version s rows) same_stream
    ∙ ap (λ rs. keys_frame setup.version setup.stream rs) due
