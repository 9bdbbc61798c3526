use Rattle.std.proofs.Common.{◌≡◌, ◌∙◌, Some, None, ◌∷◌, map, string_bytes, sym, ap}
use Rattle.std.specs.Option.{option_map}
use Rattle.tesla_run_receive.specs.Arguments as receiving
use Rattle.tesla_run_receive.specs.OutputArguments.{arguments_of, last_words}
use Rattle.tesla_run_receive.proofs.Spelled.{eight_is, found_form, only_form, spelled_as}
use Rattle.tesla_run_receive.proofs.output_words.output_words_in.Goals as goal

pub returns-in_default-receive-clause-only : goal.returns-in_default-receive-clause-only
returns-in_default-receive-clause-only c arguments is =
    let all = eight_is string_bytes c.args.words.now c.command-item.result c.setup-item.result c.lag-item.result c.capacity-item.result c.links-item.result c.sinks-item.result c.seventh-item.result c.eighth-item.result c.in-len8.len_at_least c.in-len8.len_below c.command-item.is c.setup-item.is c.lag-item.is c.capacity-item.is c.links-item.is c.sinks-item.is c.seventh-item.is c.eighth-item.is in
    let form = c.args.form.now in
    let same : map string_bytes c.args.words.now ≡ c.as_str.result.now ∷ c.as_str-4.result.now ∷ c.as_bytes.result.now ∷ c.as_bytes-2.result.now ∷ c.as_str-5.result.now ∷ c.as_str-6.result.now ∷ last_words form.order c.in_order.result.0.now c.in_order.result.1.now = cc in
    let spelled = spelled_as form.name.now form.greatest form.order arguments (map string_bytes c.args.words.now) c.as_str.result.now c.as_str-4.result.now c.as_bytes.result.now c.as_bytes-2.result.now c.as_str-5.result.now c.as_str-6.result.now c.in_order.result.0.now c.in_order.result.1.now same is in
    let no : None ≡ Some arguments.receive = sym (ap (option_map receiving.arguments_of) c.in_default-receive.is) ∙ c.read_words-receive.ensures.only arguments.receive spelled.1.received in
    absurd cc

pub returns-clause-found : goal.returns-clause-found
returns-clause-found c =
    let all = eight_is string_bytes c.args.words.now c.command-item.result c.setup-item.result c.lag-item.result c.capacity-item.result c.links-item.result c.sinks-item.result c.seventh-item.result c.eighth-item.result c.in-len8.len_at_least c.in-len8.len_below c.command-item.is c.setup-item.is c.lag-item.is c.capacity-item.is c.links-item.is c.sinks-item.is c.seventh-item.is c.eighth-item.is in
    let form = c.args.form.now in
    let same : map string_bytes c.args.words.now ≡ c.as_str.result.now ∷ c.as_str-4.result.now ∷ c.as_bytes.result.now ∷ c.as_bytes-2.result.now ∷ c.as_str-5.result.now ∷ c.as_str-6.result.now ∷ last_words form.order c.in_order.result.0.now c.as_bytes-3.result.now = cc in
    found_form form.name.now form.greatest form.order (map string_bytes c.args.words.now) c.as_str.result.now c.as_str-4.result.now c.as_bytes.result.now c.as_bytes-2.result.now c.as_str-5.result.now c.as_str-6.result.now c.in_order.result.0.now c.as_bytes-3.result.now (receiving.arguments_of c.in-Some.receive) c.read_more.result
    same (c.is_command.ensures.yes c.if-not-is_command.false) c.in-Some.ensures.found c.read_more.ensures.found

pub returns-clause-only : goal.returns-clause-only
returns-clause-only c arguments is =
    let all = eight_is string_bytes c.args.words.now c.command-item.result c.setup-item.result c.lag-item.result c.capacity-item.result c.links-item.result c.sinks-item.result c.seventh-item.result c.eighth-item.result c.in-len8.len_at_least c.in-len8.len_below c.command-item.is c.setup-item.is c.lag-item.is c.capacity-item.is c.links-item.is c.sinks-item.is c.seventh-item.is c.eighth-item.is in
    let form = c.args.form.now in
    let same : map string_bytes c.args.words.now ≡ c.as_str.result.now ∷ c.as_str-4.result.now ∷ c.as_bytes.result.now ∷ c.as_bytes-2.result.now ∷ c.as_str-5.result.now ∷ c.as_str-6.result.now ∷ last_words form.order c.in_order.result.0.now c.as_bytes-3.result.now = cc in
    let spelled = spelled_as form.name.now form.greatest form.order arguments (map string_bytes c.args.words.now) c.as_str.result.now c.as_str-4.result.now c.as_bytes.result.now c.as_bytes-2.result.now c.as_str-5.result.now c.as_str-6.result.now c.in_order.result.0.now c.as_bytes-3.result.now same is in
    let found : Some (receiving.arguments_of c.in-Some.receive) ≡ Some arguments.receive = sym (ap (option_map receiving.arguments_of) c.in-Some.is) ∙ c.read_words-receive.ensures.only arguments.receive spelled.1.received in
    let same_receive : receiving.arguments_of c.in-Some.receive ≡ arguments.receive = cc in
    only_form arguments form.greatest c.as_str-4.result.now c.as_bytes.result.now c.as_bytes-2.result.now c.as_str-5.result.now c.as_str-6.result.now c.in_order.result.0.now c.as_bytes-3.result.now (receiving.arguments_of c.in-Some.receive) (option_map arguments_of c.read_more.result) spelled.1 same_receive c.read_more.ensures.only
