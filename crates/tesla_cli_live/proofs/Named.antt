-- The command that words name, of those of a table.
use Rattle.std.proofs.Common.{◌≡◌, ◌≤◌, ◌∙◌, ℕ, Bool, true, false, List, [], ◌∷◌, length, get_or, map, refl, sym, ap, subst, arith}
use Rattle.std.specs.Str.{bytes_eq}
use Rattle.tesla_desk.specs.Outside.{Told}
use Rattle.tesla_front.specs.Command.{Command, RunsAs, no_command}
use Rattle.tesla_front.specs.OutcomeView.{Usage}
use Rattle.tesla_front.specs.Table.{IsFirst, command_in, where_named}

-- words whose first one is this name are those of the command that it names
pub command_first : (named : List ℕ → Command) (name : List ℕ) (words : List (List ℕ)) → IsFirst name words → command_in named words ≡ named name
command_first named name [] first = absurd first
command_first named name (word ∷ words) first = ap named first

-- the first of some words
abbrev pub first_of : List (List ℕ) → List ℕ
first_of words = get_or words 0 []

-- some words are those of the command that the first of them names
pub command_some : {A : Type 0} (f : A → List ℕ) (named : List ℕ → Command) (xs : List A) → 1 ≤ length xs → command_in named (map f xs) ≡ named (first_of (map f xs))
command_some f named [] some = absurd (omega arith)
command_some f named (x ∷ xs) some = refl

-- where the first of some words, told, is tested to be another than this name, it is another
pub first_isnt : {A : Type 0} (f : A → List ℕ) (name : List ℕ) (xs : List A) (first : A) (word : List ℕ) (test : Bool) → 1 ≤ length xs
    → first ≡ get_or xs 0 first → word ≡ f first → test ≡ bytes_eq word name → test ≡ false → bytes_eq (first_of (map f xs)) name ≡ false
first_isnt f name [] first word test some is same tests failed = absurd (omega arith)
first_isnt f name (x ∷ xs) first word test some is same tests failed = ap (λ (w : List ℕ). bytes_eq w name) (sym (same ∙ ap f is)) ∙ sym tests ∙ failed

-- a command whose name the word isn't
pub where_isnt : (test : Bool) (command other : Command) → test ≡ false → where_named test command other ≡ other
where_isnt false command other is = refl
where_isnt true command other is = absurd (let clash : true ≡ false = is in cc)

-- no command was run
pub runs_none : (command : Command) (words : List (List ℕ)) (told : Told) → command ≡ no_command → RunsAs command words told told Usage
runs_none command words told is =
    subst (λ (one : Command). RunsAs one words told told Usage) (sym is) (record { form = λ arguments spelled. absurd arguments; usage = λ none. (refl, refl) })
