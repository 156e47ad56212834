-- The text of a session is posts, one after another.
use Rattle.std.proofs.Common.{ℕ, zero, suc, ◌+◌, ◌<◌, ◌^◌, List, [], ◌∷◌, ◌++◌, length, drop, refl, sym, ◌∙◌, ap, subst, append_assoc, append-nil}
use Rattle.std.specs.Prelude.{All, Option, Some, None}
use Rattle.std.proofs.lemmas.List.Elements.{All-append, All-cons, All-drop, All-head, All-nil, All-tail}
use Rattle.event_form.specs.declared.event.Entry.{Entry}
use Rattle.event_form.specs.Event.{IsEvent}
use Rattle.stream_grammar.specs.Framing.{AreSpelled}
use Rattle.http_edge.specs.declared.request.HttpRequest.{HttpRequest}
use Rattle.http_edge.specs.HttpStream.{IsRequest}
use Rattle.hec_sender.specs.declared.query.Query.{Query}
use Rattle.hec_sender.specs.declared.terms.Terms.{Terms}
use Rattle.hec_sender.specs.Progress.{known_by}
use Rattle.hec_sender.specs.Requests.{confirmed_text, next_text, request_of}
use Rattle.hec_sender.specs.Texts.{asked_text, queries_text, query_text, request_text}
use Rattle.collector_laws.specs.Posts.{IsPosted, post_at}
use Rattle.collector_laws.specs.Sent.{ArePosts, IsPost, SessionIsPosts}
use Rattle.collector_laws.proofs.Ids.{HasId, have_ids}
use Rattle.collector_laws.proofs.Reading.{queries_are, requests_are}
use Rattle.collector_laws.proofs.Spelling.{posted_spells}

-- ---- texts one after another

spelled_then : (xs ys : List HttpRequest) (a b : List ℕ) → AreSpelled IsRequest xs a → AreSpelled IsRequest ys b → AreSpelled IsRequest (xs ++ ys) (a ++ b)
spelled_then [] ys a b none more = subst (λ (l : List ℕ). AreSpelled IsRequest ys (l ++ b)) (sym none) more
spelled_then (r ∷ xs) ys a b (x, y, one, e, others) more = (x, y ++ b, one, ap (λ (l : List ℕ). l ++ b) e ∙ append_assoc x y b, spelled_then xs ys y b others more)

abbrev IsEntry : Entry → Type 0
IsEntry e = IsEvent e.event

module _ (terms : Terms) where
  none_posts : ArePosts terms []
  none_posts = ([], refl, All-nil (IsPost terms))

  posts_then : (a b : List ℕ) → ArePosts terms a → ArePosts terms b → ArePosts terms (a ++ b)
  posts_then a b (xs, first, each) (ys, second, all) = (xs ++ ys, spelled_then xs ys a b first second, All-append (IsPost terms) xs ys each all)

  one_post : (path body text : List ℕ) → IsPosted path terms body text → ArePosts terms text
  one_post path body text p =
      let r = post_at path terms body in
      (r ∷ [], (text, [], (posted_spells path terms body text p).is, sym (append-nil text), refl), All-cons (IsPost terms) r [] (path, body, p.known, refl) (All-nil (IsPost terms)))

  request_posts : (place : ℕ) (entries : List Entry) → All IsEntry entries → ArePosts terms (request_text terms (request_of place entries))
  request_posts place entries events = let p = requests_are terms place entries events in one_post _ _ (request_text terms (request_of place entries)) p

  queries_posts : (id n : ℕ) → id < 2 ^ 64 → ArePosts terms (queries_text terms id n)
  queries_posts id zero few = none_posts
  queries_posts id (suc n) few = posts_then (queries_text terms id n) (query_text terms id) (queries_posts id n few) (one_post _ _ (query_text terms id) (queries_are terms id few))

  asked_posts : (asked : Option Query) → HasId asked → ArePosts terms (asked_text terms asked)
  asked_posts None few = none_posts
  asked_posts (Some q) few = queries_posts q.id q.times few

  step_posts : (place : ℕ) (entries : List Entry) (asked : Option Query) → All IsEntry entries → HasId asked → ArePosts terms (request_text terms (request_of place entries) ++ asked_text terms asked)
  step_posts place entries asked events few = posts_then (request_text terms (request_of place entries)) (asked_text terms asked) (request_posts place entries events) (asked_posts asked few)

  confirmed_posts : (place : ℕ) (confirmed : List (Option Query)) (entries : List Entry) → All IsEntry entries → All HasId confirmed → ArePosts terms (confirmed_text terms place confirmed entries)
  confirmed_posts place [] entries events ids = none_posts
  confirmed_posts place (asked ∷ confirmed) [] events ids = none_posts
  confirmed_posts place (asked ∷ confirmed) (e ∷ es) events ids =
      let k = length (request_of place (e ∷ es)) in
      posts_then (request_text terms (request_of place (e ∷ es)) ++ asked_text terms asked) (confirmed_text terms (place + k) confirmed (drop k (e ∷ es)))
      (step_posts place (e ∷ es) asked events (All-head HasId asked confirmed ids))
      (confirmed_posts (place + k) confirmed (drop k (e ∷ es)) (All-drop IsEntry k (e ∷ es) events) (All-tail HasId asked confirmed ids))

  next_posts : (place : ℕ) (asked : Option Query) (entries : List Entry) → All IsEntry entries → HasId asked → ArePosts terms (next_text terms place asked entries)
  next_posts place asked [] events few = none_posts
  next_posts place asked (e ∷ es) events few = step_posts place (e ∷ es) asked events few

pub session_posts : SessionIsPosts
session_posts terms entries polls replies p events takes =
    let k = known_by entries p in
    let ids = have_ids polls replies p takes in
    posts_then terms (confirmed_text terms 0 p.confirmed entries) (next_text terms k p.asked (drop k entries))
    (confirmed_posts terms 0 p.confirmed entries events ids.1)
    (next_posts terms k p.asked (drop k entries) (All-drop IsEntry k entries events) ids.0)
