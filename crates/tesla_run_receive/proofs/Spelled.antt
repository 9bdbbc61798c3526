-- The words of a command with one output more.
use Rattle.std.proofs.Common.{◌≡◌, ◌≢◌, ◌≤◌, ◌<◌, ◌∙◌, ℕ, Option, Some, None, IfSome, List, [], ◌∷◌, length, get_or, map, codes, sym, ap, subst, arith}
use Rattle.tesla_front.specs.Words.{IsName, IsNumberWithin}
use Rattle.tesla_run_receive.specs.Arguments.{ReceiveArguments, IsReceive, AreOthers}
use Rattle.tesla_run_receive.specs.Arguments as receiving
use Rattle.tesla_run_receive.specs.OutputArguments.{OutputArguments, IsOutputForm, arguments_of, last_words}
use Rattle.tesla_run_receive.specs.declared.output_arguments.OutputWords.{OutputWords}
use Rattle.tesla_run_receive.specs.declared.output_form.Order.{Order}
use Rattle.tesla_run_receive.specs.declared.output_form.Order.TheVariants.{NumberFirst, OutputFirst}

-- a list of eight, told each of them
pub eight_is : {A : Type 0} (f : A → List ℕ) (xs : List A) (a b c d e g h i : A) → 8 ≤ length xs → length xs < 9 → a ≡ get_or xs 0 a → b ≡ get_or xs 1 b → c ≡ get_or xs 2 c → d ≡ get_or xs 3 d → e ≡ get_or xs 4 e → g ≡ get_or xs 5 g → h ≡ get_or xs 6 h → i ≡ get_or xs 7 i → map f xs ≡ f a ∷ f b ∷ f c ∷ f d ∷ f e ∷ f g ∷ f h ∷ f i ∷ []
eight_is f [] a b c d e g h i least most _ _ _ _ _ _ _ _ = absurd (omega arith)
eight_is f (x0 ∷ []) a b c d e g h i least most _ _ _ _ _ _ _ _ = absurd (omega arith)
eight_is f (x0 ∷ x1 ∷ []) a b c d e g h i least most _ _ _ _ _ _ _ _ = absurd (omega arith)
eight_is f (x0 ∷ x1 ∷ x2 ∷ []) a b c d e g h i least most _ _ _ _ _ _ _ _ = absurd (omega arith)
eight_is f (x0 ∷ x1 ∷ x2 ∷ x3 ∷ []) a b c d e g h i least most _ _ _ _ _ _ _ _ = absurd (omega arith)
eight_is f (x0 ∷ x1 ∷ x2 ∷ x3 ∷ x4 ∷ []) a b c d e g h i least most _ _ _ _ _ _ _ _ = absurd (omega arith)
eight_is f (x0 ∷ x1 ∷ x2 ∷ x3 ∷ x4 ∷ x5 ∷ []) a b c d e g h i least most _ _ _ _ _ _ _ _ = absurd (omega arith)
eight_is f (x0 ∷ x1 ∷ x2 ∷ x3 ∷ x4 ∷ x5 ∷ x6 ∷ []) a b c d e g h i least most _ _ _ _ _ _ _ _ = absurd (omega arith)
eight_is f (x0 ∷ x1 ∷ x2 ∷ x3 ∷ x4 ∷ x5 ∷ x6 ∷ x7 ∷ []) a b c d e g h i least most p0 p1 p2 p3 p4 p5 p6 p7 = cc
eight_is f (x0 ∷ x1 ∷ x2 ∷ x3 ∷ x4 ∷ x5 ∷ x6 ∷ x7 ∷ x8 ∷ xs) a b c d e g h i least most _ _ _ _ _ _ _ _ = absurd (omega arith)

-- what the words ask for, told each of them
pub record Spelled (greatest : ℕ) (arguments : OutputArguments) (setup lag capacity links sinks output number : List ℕ) : Type 0 where
  pub received : IsReceive arguments.receive (codes "receive" ∷ setup ∷ lag ∷ capacity ∷ links ∷ sinks ∷ [])
  pub output_is : arguments.output ≡ output
  pub numbered : IsNumberWithin 1 greatest number arguments.number
  pub named : IsName output
  pub not_setup : output ≢ arguments.receive.setup
  pub not_sink : AreOthers output arguments.receive.sinks

-- the words of receive, each of which is the same
same_received : (receive : ReceiveArguments) (a b c d e a1 b1 c1 d1 e1 : List ℕ) → a ≡ a1 → b ≡ b1 → c ≡ c1 → d ≡ d1 → e ≡ e1 → IsReceive receive (codes "receive" ∷ a ∷ b ∷ c ∷ d ∷ e ∷ []) → IsReceive receive (codes "receive" ∷ a1 ∷ b1 ∷ c1 ∷ d1 ∷ e1 ∷ [])
same_received receive a b c d e a1 b1 c1 d1 e1 pa pb pc pd pe is =
    let same : codes "receive" ∷ a ∷ b ∷ c ∷ d ∷ e ∷ [] ≡ codes "receive" ∷ a1 ∷ b1 ∷ c1 ∷ d1 ∷ e1 ∷ [] = cc in
    subst (λ (words : List (List ℕ)). IsReceive receive words) same is

-- the words of a form and these are the same words
record Same (order : Order) (arguments : OutputArguments) (name lag0 capacity0 links0 sinks0 number0 command setup lag capacity links sinks output number : List ℕ) : Type 0 where
  named : name ≡ command
  setups : arguments.receive.setup ≡ setup
  lags : lag0 ≡ lag
  capacities : capacity0 ≡ capacity
  all_links : links0 ≡ links
  all_sinks : sinks0 ≡ sinks
  outputs : arguments.output ≡ output
  numbers : number0 ≡ number

same_words : (order : Order) (arguments : OutputArguments) (name lag0 capacity0 links0 sinks0 number0 command setup lag capacity links sinks output number : List ℕ) → name ∷ arguments.receive.setup ∷ lag0 ∷ capacity0 ∷ links0 ∷ sinks0 ∷ last_words order arguments.output number0 ≡ command ∷ setup ∷ lag ∷ capacity ∷ links ∷ sinks ∷ last_words order output number
    → Same order arguments name lag0 capacity0 links0 sinks0 number0 command setup lag capacity links sinks output number
same_words NumberFirst arguments name lag0 capacity0 links0 sinks0 number0 command setup lag capacity links sinks output number same =
    record { named = cc; setups = cc; lags = cc; capacities = cc; all_links = cc; all_sinks = cc; outputs = cc; numbers = cc }
same_words OutputFirst arguments name lag0 capacity0 links0 sinks0 number0 command setup lag capacity links sinks output number same =
    record { named = cc; setups = cc; lags = cc; capacities = cc; all_links = cc; all_sinks = cc; outputs = cc; numbers = cc }

-- words of a form are spelled so
pub spelled_as : (name : List ℕ) (greatest : ℕ) (order : Order) (arguments : OutputArguments) (words : List (List ℕ)) (command setup lag capacity links sinks output number : List ℕ) → words ≡ command ∷ setup ∷ lag ∷ capacity ∷ links ∷ sinks ∷ last_words order output number → IsOutputForm name greatest order arguments words
    → (name ≡ command) × Spelled greatest arguments setup lag capacity links sinks output number
spelled_as name greatest order arguments words command setup lag capacity links sinks output number words_are is =
    let same = same_words order arguments name is.lag is.capacity is.links is.sinks is.number command setup lag capacity links sinks output number (sym is.spelled ∙ words_are) in (
      same.named,
      record {
        received = same_received arguments.receive arguments.receive.setup is.lag is.capacity is.links is.sinks setup lag capacity links sinks same.setups same.lags same.capacities same.all_links same.all_sinks is.received;
        output_is = same.outputs;
        numbered = subst (λ (n : List ℕ). IsNumberWithin 1 greatest n arguments.number) same.numbers is.numbered;
        named = subst IsName same.outputs is.named;
        not_setup = subst (λ (o : List ℕ). o ≢ arguments.receive.setup) same.outputs is.not_setup;
        not_sink = subst (λ (o : List ℕ). AreOthers o arguments.receive.sinks) same.outputs is.not_sink;
      },
    )

-- words that are spelled so are of the form
pub form_from : (name : List ℕ) (greatest : ℕ) (order : Order) (arguments : OutputArguments) (words : List (List ℕ)) (command setup lag capacity links sinks output number : List ℕ) → words ≡ command ∷ setup ∷ lag ∷ capacity ∷ links ∷ sinks ∷ last_words order output number → command ≡ name → Spelled greatest arguments setup lag capacity links sinks output number
    → IsOutputForm name greatest order arguments words
form_from name greatest order arguments words command setup lag capacity links sinks output number words_are name_is spelled =
    let received = spelled.received in
    let setup_is : setup ≡ arguments.receive.setup = let all = received.spelled in cc in
    record {
      lag = lag;
      capacity = capacity;
      links = links;
      sinks = sinks;
      number = number;
      spelled = words_are ∙ ap (λ (n : List ℕ). n ∷ setup ∷ lag ∷ capacity ∷ links ∷ sinks ∷ last_words order output number) name_is
          ∙ ap (λ (s : List ℕ). name ∷ s ∷ lag ∷ capacity ∷ links ∷ sinks ∷ last_words order output number) setup_is
          ∙ ap (λ (o : List ℕ). name ∷ arguments.receive.setup ∷ lag ∷ capacity ∷ links ∷ sinks ∷ last_words order o number) (sym spelled.output_is);
      received = subst (λ (s : List ℕ). IsReceive arguments.receive (codes "receive" ∷ s ∷ lag ∷ capacity ∷ links ∷ sinks ∷ [])) setup_is received;
      numbered = spelled.numbered;
      named = subst IsName (sym spelled.output_is) spelled.named;
      not_setup = subst (λ (o : List ℕ). o ≢ arguments.receive.setup) (sym spelled.output_is) spelled.not_setup;
      not_sink = subst (λ (o : List ℕ). AreOthers o arguments.receive.sinks) (sym spelled.output_is) spelled.not_sink;
    }

-- what the words ask for is of the form, where it was read of them
pub found_form : (name : List ℕ) (greatest : ℕ) (order : Order) (words : List (List ℕ)) (command setup lag capacity links sinks output number : List ℕ) (receive : ReceiveArguments) (result : Option OutputWords) → words ≡ command ∷ setup ∷ lag ∷ capacity ∷ links ∷ sinks ∷ last_words order output number → command ≡ name
    → IsReceive receive (codes "receive" ∷ setup ∷ lag ∷ capacity ∷ links ∷ sinks ∷ [])
    → IfSome result (λ arguments. (receiving.arguments_of arguments.receive ≡ receive) × (arguments.output.now ≡ output) × IsNumberWithin 1 greatest number arguments.number × IsName output × (output ≢ receive.setup) × AreOthers output receive.sinks)
    → IfSome result (λ arguments. IsOutputForm name greatest order (arguments_of arguments) words)
found_form name greatest order words command setup lag capacity links sinks output number receive None words_are name_is received found = tt
found_form name greatest order words command setup lag capacity links sinks output number receive (Some arguments) words_are name_is received found =
    let (same, output_is, numbered, named, not_setup, not_sink) = found in
    form_from name greatest order (arguments_of arguments) words command setup lag capacity links sinks output number words_are name_is (record {
      received = subst (λ (r : ReceiveArguments). IsReceive r (codes "receive" ∷ setup ∷ lag ∷ capacity ∷ links ∷ sinks ∷ [])) (sym same) received;
      output_is = output_is;
      numbered = numbered;
      named = named;
      not_setup = subst (λ (r : ReceiveArguments). output ≢ r.setup) (sym same) not_setup;
      not_sink = subst (λ (r : ReceiveArguments). AreOthers output r.sinks) (sym same) not_sink;
    })

-- and nothing else is
pub only_form : (arguments : OutputArguments) (greatest : ℕ) (setup lag capacity links sinks output number : List ℕ) (receive : ReceiveArguments) (result : Option OutputArguments) → Spelled greatest arguments setup lag capacity links sinks output number → receive ≡ arguments.receive
    → ((n : ℕ) → IsNumberWithin 1 greatest number n → IsName output → output ≢ receive.setup → AreOthers output receive.sinks → result ≡ Some (record { receive = receive; output = output; number = n }))
    → result ≡ Some arguments
only_form arguments greatest setup lag capacity links sinks output number receive result spelled same only =
    only arguments.number spelled.numbered spelled.named (subst (λ (r : ReceiveArguments). output ≢ r.setup) (sym same) spelled.not_setup) (subst (λ (r : ReceiveArguments). AreOthers output r.sinks) (sym same) spelled.not_sink)
    ∙ ap (λ (r : ReceiveArguments). let one : OutputArguments = record { receive = r; output = output; number = arguments.number } in Some one) same
    ∙ ap (λ (o : List ℕ). let one : OutputArguments = record { receive = arguments.receive; output = o; number = arguments.number } in Some one) (sym spelled.output_is)
