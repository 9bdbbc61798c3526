-- What a feed and a server come to.
use Rattle.std.proofs.Common.{◌≡◌, ◌∙◌, ℕ, ◌+◌, ◌≤◌, Bool, true, List, [], ◌∷◌, ◌++◌, length, take, refl, sym, ap, subst, arith, append-nil}
use Rattle.std.specs.List.{AllByRecursion}
use Rattle.std.proofs.lemmas.List.{length-append}
use Rattle.std.proofs.lemmas.List.Concat.{flat_map-append}
use Rattle.crossbeam_queue.specs.Passes.{view}
use Rattle.tesla_desk.specs.Faults.{HasCause}
use Rattle.tesla_relay.specs.Posts.{PostSeen, with_datagrams}
use Rattle.tesla_relay.specs.Feeding.{text_in, texts, IsDatagram, Keeps, Served, ServerSeen}
use Rattle.tesla_relay.specs.Lists.{Ends}
use Rattle.tesla_relay.specs.Relay.{DropsBehind, RelaysPost, kept_of}
use Rattle.tesla_relay.specs.declared.feed.Feed.{Feed}
use Rattle.tesla_relay.specs.declared.line.Item.{Item}
use Rattle.tesla_relay.specs.declared.line.Item.TheVariants.{End}
use Rattle.tesla_relay.specs.declared.line.Log.{Log}
use Rattle.tesla_relay.specs.declared.relayed.PostCount.{PostCount}

head_of : Item → List Item → Item
head_of d [] = d
head_of d (x ∷ xs) = x

tail_of : List Item → List Item
tail_of [] = []
tail_of (x ∷ xs) = xs

-- datagrams and then one end: what stands before an end among them are all the datagrams
before_end : (items prefix more : List Item) → AllByRecursion IsDatagram items → items ++ End ∷ [] ≡ (prefix ++ End ∷ []) ++ more → prefix ≡ items
unfolding tail_of head_of
before_end [] [] more all same = refl
before_end [] (f ∷ prefix) more all same =
    let rest : [] ≡ (prefix ++ End ∷ []) ++ more = ap tail_of same in
    let size : length ((prefix ++ End ∷ []) ++ more) ≡ length prefix + 1 + length more = length-append (prefix ++ End ∷ []) more ∙ ap (λ n. n + length more) (length-append prefix (End ∷ [])) in
    absurd (omega (arith, size, ap (λ (l : List Item). length l) rest))
before_end (i ∷ items) [] more all same = absurd (subst IsDatagram (ap (head_of End) same) all.0)
before_end (i ∷ items) (f ∷ prefix) more all same =
    let first : i ≡ f = ap (head_of End) same in
    ap (λ (x : Item). x ∷ prefix) (sym first) ∙ ap (λ (l : List Item). i ∷ l) (before_end items prefix more all.1 (ap tail_of same))

texts_end : (prefix : List Item) → texts (prefix ++ End ∷ []) ≡ texts prefix
texts_end prefix = flat_map-append text_in prefix (End ∷ []) ∙ append-nil (texts prefix)

pub settles : {X : Type 0} (capacity : ℕ) (arrived : List (List ℕ)) (start : PostSeen) (feed : Feed X) (server : ServerSeen) (count : PostCount) (more : List Item) → Ends capacity arrived start feed server → (view feed.pass).put ≡ (view server.pass).popped ++ more → count.sent ≡ server.sent → count.dropped ≡ feed.dropped → count.failed ≡ server.failed
    → RelaysPost capacity arrived start server.post count
settles capacity arrived start feed server count more ends total sent dropped failed =
    let items : List Item = ends.closed.0 in let keeps : Keeps feed.capacity arrived items feed.dropped = ends.closed.2 in
    let prefix : List Item = ends.done.0 in let served : Served start server = ends.served in
    let put : (view feed.pass).put ≡ items ++ End ∷ [] = ap (λ (l : Log). l.put) ends.closed.1 in
    let popped : (view server.pass).popped ≡ prefix ++ End ∷ [] = ap (λ (l : Log). l.popped) ends.done.1 in
    let same : prefix ≡ items = before_end items prefix more keeps.whole (sym put ∙ total ∙ ap (λ (l : List Item). l ++ more) popped) in
    let mine : served.popped ≡ prefix ++ End ∷ [] = ap (λ (l : Log). l.popped) (sym served.view_is) ∙ popped in
    let all : texts served.popped ≡ kept_of keeps.marks arrived = ap texts mine ∙ texts_end prefix ∙ ap texts same ∙ keeps.texts_are in
    record {
      sent = take served.sends (kept_of keeps.marks arrived);
      to = record {
        marks = keeps.marks;
        each = keeps.each;
        full = subst (λ (n : ℕ). DropsBehind n 0 keeps.marks) ends.capacity_is keeps.full;
        sends = served.sends;
        few = subst (λ (ts : List (List ℕ)). served.sends ≤ length ts) all served.few;
        all = λ fine. served.all (sym failed ∙ fine) ∙ ap (λ (ts : List (List ℕ)). length ts) all;
        sent_are = refl;
        sent_count = sent ∙ served.count;
        dropped_count = dropped ∙ keeps.dropped_is;
      };
      sent_is = served.sent ∙ ap (λ (ts : List (List ℕ)). with_datagrams start.sent (take served.sends ts)) all;
      name = served.name;
      cause = subst (λ (b : Bool). HasCause start.faults server.post.faults (b ≡ true)) (sym failed) served.cause;
    }
