-- Followed histories, with one entry more.
use Rattle.std.proofs.Common.{◌≡◌, ◌+◌, List, [], ◌∷◌, ◌++◌, length-append, append_assoc, refl, sym, ap, subst, ◌∙◌}
use Rattle.std.proofs.lemmas.List.{append-nil}
use Rattle.std.proofs.lemmas.List.Sums.{fold-append}
use Rattle.tesla_fitting.specs.declared.config.Config.{Config}
use Rattle.tesla_receiver.specs.History.{Event, Arrives, Takes, Ends}
use Rattle.tesla_follow.specs.Followed.{Followed, nothing_followed}
use Rattle.tesla_follow.specs.History.{FollowEntry, IsFollowed, IsFollowedAfter, after_event, entry_of, event_of, followed}
use Rattle.tesla_follow.specs.Stands.{FollowStands, FollowState, Keeps}

pub followed_none : (cfg : Config) → followed cfg [] ≡ nothing_followed cfg
unfolding followed
followed_none cfg = refl

-- what was made is what the event made of it
pub followed_more : (cfg : Config) (h : List FollowEntry) (e : FollowEntry) → followed cfg (h ++ e ∷ []) ≡ after_event cfg (followed cfg h) (event_of e)
unfolding followed
followed_more cfg h e = fold-append (λ it entry. after_event cfg it (event_of entry)) (nothing_followed cfg) h (e ∷ [])

-- an entry is of its event
pub event_is : (cfg : Config) (it : Followed) (event : Event) → event_of (entry_of cfg it event) ≡ event
event_is cfg it (Arrives ingest reading bytes) = refl
event_is cfg it (Takes releaser) = refl
event_is cfg it (Ends ingest) = refl

-- one answer more
pub legal_more : (cfg : Config) (before h : List FollowEntry) (e : FollowEntry) → IsFollowedAfter cfg before h → e ≡ entry_of cfg (followed cfg (before ++ h)) (event_of e) → IsFollowedAfter cfg before (h ++ e ∷ [])
legal_more cfg before [] e l is = (is ∙ ap (λ (b : List FollowEntry). entry_of cfg (followed cfg b) (event_of e)) (append-nil before), tt)
legal_more cfg before (x ∷ h) e l is =
    (l.0, legal_more cfg (before ++ x ∷ []) h e l.1 (is ∙ ap (λ (b : List FollowEntry). entry_of cfg (followed cfg b) (event_of e)) (sym (append_assoc before (x ∷ []) h))))

pub entered_legal : (cfg : Config) (h : List FollowEntry) (event : Event) → IsFollowed cfg h → IsFollowed cfg (h ++ entry_of cfg (followed cfg h) event ∷ [])
entered_legal cfg h event l =
    legal_more cfg [] h (entry_of cfg (followed cfg h) event) l (ap (entry_of cfg (followed cfg h)) (sym (event_is cfg (followed cfg h) event)))

-- it stands for a history with the entry of an event more where it keeps what the event made
pub stands_more : (old new : FollowState) (h : List FollowEntry) (event : Event) → FollowStands old h → new.config ≡ old.config → new.calls ≡ old.calls + 1
    → Keeps new (after_event old.config (followed old.config h) event) → FollowStands new (h ++ entry_of old.config (followed old.config h) event ∷ [])
stands_more old new h event st config calls keeps =
    let cfg = old.config in
    let e : FollowEntry = entry_of cfg (followed cfg h) event in
    record {
      legal = subst (λ (c : Config). IsFollowed c (h ++ e ∷ [])) (sym config) (entered_legal cfg h event st.legal);
      keeps = subst (λ (c : Config). Keeps new (followed c (h ++ e ∷ []))) (sym config)
          (subst (λ (made : Followed). Keeps new made) (sym (followed_more cfg h e ∙ ap (after_event cfg (followed cfg h)) (event_is cfg (followed cfg h) event))) keeps);
      calls = calls ∙ ap (λ n. n + 1) st.calls ∙ sym (length-append h (e ∷ []));
    }
