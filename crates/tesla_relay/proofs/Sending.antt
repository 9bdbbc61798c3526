-- What a server has sent, one item later.
use Rattle.std.proofs.Common.{◌≡◌, ◌∙◌, ℕ, ◌+◌, ◌≤◌, Bool, true, false, true≢false, List, [], ◌∷◌, ◌++◌, length, map, take, Option, Some, None, refl, sym, ap, subst, arith, append-nil, append_assoc}
use Rattle.std.proofs.lemmas.List.{length-append, take-append-le}
use Rattle.std.proofs.lemmas.List.Concat.{flat_map-append}
use Rattle.std.proofs.Math.Seq.{take-length}
use Rattle.crossbeam_queue.specs.Passes.{Pass, view}
use Rattle.tesla_desk.specs.Faults.{HasCause, Rose}
use Rattle.tesla_desk.specs.Posts.{with_datagram}
use Rattle.tesla_relay.specs.Posts.{PostSeen, with_datagrams}
use Rattle.tesla_relay.specs.Due.{Basis, IsNextRelayed}
use Rattle.tesla_relay.specs.Feeding.{text_in, texts, HasServed, IsServing, SendsNext, Served, ServerSeen, ServesOn}
use Rattle.tesla_relay.specs.Line.{numbered, numbered_in, popped_log}
use Rattle.tesla_relay.specs.Numbered.{AreBrought, Numbered, datagram_of}
use Rattle.tesla_relay.specs.Play.{having_sent}
use Rattle.tesla_relay.proofs.Numbered.{numbered_more, texts_of}
use Rattle.tesla_relay.proofs.Feeding.{texts_more}
use Rattle.tesla_relay.specs.declared.line.Log.{Log}
use Rattle.tesla_relay.specs.declared.line.Item.{Item}
use Rattle.tesla_relay.specs.declared.line.Item.TheVariants.{End}

-- ---- what was sent

sent_more : (sent : Option (List (List ℕ))) (prefix : List (List ℕ)) (datagram : List ℕ) → with_datagram (with_datagrams sent prefix) datagram ≡ with_datagrams sent (prefix ++ datagram ∷ [])
sent_more None prefix datagram = refl
sent_more (Some before) prefix datagram = ap (λ all. Some all) (append_assoc before prefix (datagram ∷ []))

texts_end : (popped : List Item) → texts (popped ++ End ∷ []) ≡ texts popped
texts_end popped = flat_map-append text_in popped (End ∷ []) ∙ append-nil (texts popped)

-- a front stays a prefix
take_prefix : (all : List (List ℕ)) (datagram : List ℕ) (n : ℕ) → n ≤ length all → take n (all ++ datagram ∷ []) ≡ take n all
take_prefix all datagram n few = take-append-le n all (datagram ∷ []) few

take_more : (all : List (List ℕ)) (datagram : List ℕ) (n : ℕ) → n ≡ length all → take (n + 1) (all ++ datagram ∷ []) ≡ take n all ++ datagram ∷ []
take_more all datagram n whole =
    let size : length (all ++ datagram ∷ []) ≡ n + 1 = length-append all (datagram ∷ []) ∙ ap (λ m. m + 1) (sym whole) in
    ap (λ m. take m (all ++ datagram ∷ [])) (sym size) ∙ take-length (all ++ datagram ∷ []) ∙ ap (λ prefix. prefix ++ datagram ∷ []) (sym (ap (λ m. take m all) whole ∙ take-length all))

-- ---- one item later

module _ (start : PostSeen) (old new : ServerSeen) (pass : Pass Item Log) (item : Item) (datagram : List ℕ) (is : text_in item ≡ datagram ∷ []) (taken : view pass ≡ popped_log ((view old.pass).popped ++ item ∷ [])) (next : SendsNext datagram (record old { pass = pass }) new) (served : Served start old) where
  view_is : view new.pass ≡ popped_log (served.popped ++ item ∷ [])
  view_is = ap (λ (p : Pass Item Log). view p) next.pass ∙ taken ∙ ap (λ (l : Log). popped_log (l.popped ++ item ∷ [])) served.view_is

  more : length (texts (served.popped ++ item ∷ [])) ≡ length (texts served.popped) + 1
  more = ap (λ (ts : List (List ℕ)). length ts) (texts_more served.popped item datagram is) ∙ length-append (texts served.popped) (datagram ∷ [])

  -- no more was sent
  prefix : take served.sends (texts (served.popped ++ item ∷ [])) ≡ take served.sends (texts served.popped)
  prefix = ap (λ (ts : List (List ℕ)). take served.sends ts) (texts_more served.popped item datagram is) ∙ take_prefix (texts served.popped) datagram served.sends served.few

  stays_failed : new.failed ≡ true → new.post.sent ≡ old.post.sent → new.sent ≡ old.sent → HasCause start.faults new.post.faults (new.failed ≡ true) → Served start new
  stays_failed failed sent count cause = record {
    popped = served.popped ++ item ∷ [];
    view_is = view_is;
    sends = served.sends;
    few = omega (arith, served.few, more);
    all = λ fine. absurd (true≢false (sym failed ∙ fine));
    sent = sent ∙ served.sent ∙ ap (λ (ts : List (List ℕ)). with_datagrams start.sent ts) (sym prefix);
    name = next.name ∙ served.name;
    cause = cause;
    count = count ∙ served.count;
  }

  -- the post had failed before
  skips : old.failed ≡ true → Served start new
  skips was =
      let same : new ≡ record old { pass = pass } = next.skipped was in
      let post : new.post ≡ old.post = ap (λ (s : ServerSeen). s.post) same in
      stays_failed (ap (λ (s : ServerSeen). s.failed) same ∙ was) (ap (λ (p : PostSeen). p.sent) post) (ap (λ (s : ServerSeen). s.sent) same) (record {
        stays = subst (λ (p : PostSeen). start.faults ≤ p.faults) (sym post) served.cause.stays;
        rose = λ f. subst (λ (p : PostSeen). Rose start.faults p.faults) (sym post) (served.cause.rose was);
        still = λ fine. absurd (fine (ap (λ (s : ServerSeen). s.failed) same ∙ was));
      })

  -- the counts of faults before
  fine_before : old.failed ≡ false → old.post.faults ≡ start.faults
  fine_before was = served.cause.still (λ f. true≢false (sym f ∙ was))

  later_cause : old.failed ≡ false → HasCause start.faults new.post.faults (new.failed ≡ true)
  later_cause was = subst (λ (n : ℕ). HasCause n new.post.faults (new.failed ≡ true)) (fine_before was) (next.cause was)

  -- the post failed now
  breaks : old.failed ≡ false → new.failed ≡ true → Served start new
  breaks was now = let same = next.broken was now in stays_failed now same.0 same.1 (later_cause was)

  -- it sent the datagram
  sends_one : old.failed ≡ false → new.failed ≡ false → Served start new
  sends_one was now =
      let sent = next.sent was now in let whole : served.sends ≡ length (texts served.popped) = served.all was in record {
        popped = served.popped ++ item ∷ [];
        view_is = view_is;
        sends = served.sends + 1;
        few = omega (arith, whole, more);
        all = λ fine. omega (arith, whole, more);
        sent = sent.0 ∙ ap (λ (s : Option (List (List ℕ))). with_datagram s datagram) served.sent ∙ sent_more start.sent (take served.sends (texts served.popped)) datagram
            ∙ ap (λ (ts : List (List ℕ)). with_datagrams start.sent ts) (sym (ap (λ (ts : List (List ℕ)). take (served.sends + 1) ts) (texts_more served.popped item datagram is) ∙ take_more (texts served.popped) datagram served.sends whole));
        name = next.name ∙ served.name;
        cause = later_cause was;
        count = sent.1 ∙ omega (arith, served.count);
      }

  by_bools : (was now : Bool) → old.failed ≡ was → new.failed ≡ now → Served start new
  by_bools true now was is_now = skips was
  by_bools false true was is_now = breaks was is_now
  by_bools false false was is_now = sends_one was is_now

  pub served_more : Served start new
  served_more = by_bools old.failed new.failed refl refl

-- the end was taken out
pub served_end : (start : PostSeen) (old : ServerSeen) (pass : Pass Item Log) → view pass ≡ popped_log ((view old.pass).popped ++ End ∷ []) → Served start old → Served start (record old { pass = pass })
served_end start old pass taken served = record {
  popped = served.popped ++ End ∷ [];
  view_is = taken ∙ ap (λ (l : Log). popped_log (l.popped ++ End ∷ [])) served.view_is;
  sends = served.sends;
  few = subst (λ (ts : List (List ℕ)). served.sends ≤ length ts) (sym (texts_end served.popped)) served.few;
  all = λ fine. served.all fine ∙ ap (λ (ts : List (List ℕ)). length ts) (sym (texts_end served.popped));
  sent = served.sent ∙ ap (λ (ts : List (List ℕ)). with_datagrams start.sent (take served.sends ts)) (sym (texts_end served.popped));
  name = served.name;
  cause = served.cause;
  count = served.count;
}

-- nothing was taken out
pub served_none : (start : PostSeen) (old : ServerSeen) (pass : Pass Item Log) → view pass ≡ view old.pass → Served start old → Served start (record old { pass = pass })
served_none start old pass same served = record { popped = served.popped; view_is = same ∙ served.view_is; sends = served.sends; few = served.few; all = served.all; sent = served.sent; name = served.name; cause = served.cause; count = served.count }

-- ---- a server goes on

-- it took out a datagram and handed it to its post
pub serves_datagram : (old new : ServerSeen) (pass : Pass Item Log) (item : Item) (datagram : List ℕ) → text_in item ≡ datagram ∷ [] → IsServing old → pass.table_id ≡ old.pass.table_id → pass.me.1 ≡ old.pass.me.1 → view pass ≡ popped_log ((view old.pass).popped ++ item ∷ []) → SendsNext datagram (record old { pass = pass }) new → ServesOn old new
serves_datagram old new pass item datagram is serving table whole taken next =
    let own : new.pass.table_id ≡ old.pass.table_id = ap (λ (p : Pass Item Log). p.table_id) next.pass ∙ table in record {
      serving = record {
        table = own ∙ serving.table ∙ sym next.table;
        whole = ap (λ (p : Pass Item Log). p.me.1) next.pass ∙ whole ∙ serving.whole;
        popped = (view old.pass).popped ++ item ∷ [];
        view_is = ap (λ (p : Pass Item Log). view p) next.pass ∙ taken;
      };
      same = record { table = next.table; pass = own };
      served = λ start served. served_more start old new pass item datagram is taken next served;
    }

-- ---- what is due

seen_so : (post : PostSeen) (name : List ℕ) (sent : Option (List (List ℕ))) (faults : ℕ) → post.name ≡ name → post.sent ≡ sent → post.faults ≡ faults → post ≡ record { name = name; sent = sent; faults = faults }
seen_so post name sent faults same told count =
    ap (λ (n : List ℕ). let it : PostSeen = record { name = n; sent = post.sent; faults = post.faults } in it) same
    ∙ ap (λ (s : Option (List (List ℕ))). let it : PostSeen = record { name = name; sent = s; faults = post.faults } in it) told
    ∙ ap (λ (n : ℕ). let it : PostSeen = record { name = name; sent = sent; faults = n } in it) count

-- a post that didn't fail has sent all that was taken out for it
all_sent : (start : PostSeen) (server : ServerSeen) → (served : Served start server) → server.failed ≡ false → server.post ≡ having_sent (map datagram_of (numbered served.popped)) start
all_sent start server served fine =
    let all : take served.sends (texts served.popped) ≡ texts served.popped = ap (λ (n : ℕ). take n (texts served.popped)) (served.all fine) ∙ take-length (texts served.popped) in
    seen_so server.post start.name (with_datagrams start.sent (map datagram_of (numbered served.popped))) start.faults served.name
    (served.sent ∙ ap (with_datagrams start.sent) (all ∙ sym (texts_of served.popped))) (served.cause.still (λ failed. true≢false (sym failed ∙ fine)))

-- a datagram that was taken out is what its post is to send next
pub next_relayed : (basis : Basis) (server : ServerSeen) (item : Item) (number : ℕ) (datagram : List ℕ) → HasServed basis server → numbered_in item ≡ record { number = number; bytes = datagram } ∷ [] → AreBrought basis.brought (numbered ((view server.pass).popped ++ item ∷ [])) → server.failed ≡ false → IsNextRelayed basis server.post datagram
next_relayed basis server item number datagram has is brought fine =
    let before = has.served.popped in
    let popped : (view server.pass).popped ≡ before = ap (λ (l : Log). l.popped) has.served.view_is in
    record {
      start = has.start;
      among = has.among;
      before = numbered before;
      post_is = all_sent has.start server has.served fine;
      number = number;
      brought = subst (AreBrought basis.brought) (numbered_more before item ∙ ap (λ (own : List Numbered). numbered before ++ own) is) (subst (λ (l : List Item). AreBrought basis.brought (numbered (l ++ item ∷ []))) popped brought);
    }
