-- A request has one act.
use Rattle.std.proofs.Common.{◌≡◌, ℕ, ◌⊎◌, inl, inr, List, map, None, Result, Ok, Err, refl, sym, ◌∙◌, ap, subst}
use Rattle.event_form.specs.declared.event.Event.{Event}
use Rattle.body_faults.specs.declared.fault.BodyFault.{BodyFault}
use Rattle.body_faults.specs.declared.fault.BodyFault.TheVariants.{NoData, Format, NoEvent, Blank, TooMany, NoMemory}
use Rattle.hec_body.specs.Events.{OneCut}
use Rattle.hec_body.specs.Lines.{OneLineCut}
use Rattle.hec_body.specs.Acks.{OneQuery}
use Rattle.hec_session.specs.declared.act.HecAct.{HecAct}
use Rattle.hec_session.specs.declared.act.HecAct.TheVariants.{StoreThenSay, SayThenStore, Ask, Say}
use Rattle.hec_session.specs.declared.code.HecCode.{HecCode}
use Rattle.hec_session.specs.declared.endpoint.Form.{Form}
use Rattle.hec_session.specs.declared.endpoint.Form.TheVariants.{Objects, Raw}
use Rattle.hec_session.specs.declared.say.HecSay.{HecSay}
use Rattle.hec_session.specs.declared.task.Task.{Task}
use Rattle.hec_session.specs.declared.task.Task.TheVariants.{Store, StoreOn, AskOn}
use Rattle.hec_session.specs.Codes.{say_of}
use Rattle.hec_session.specs.Checks.{task_of}
use Rattle.hec_session.specs.Acts.{IsCutBy, event_of, AreEventsOf, Tells, TellsFaultOf, Stores, StoresOn, AsksOn, IsActFor}
use Rattle.hec_session.specs.OneAct.{AreAlike, OneAct}

-- a fault is told in one way
told_once : (fault : BodyFault) (s t : HecSay) → Tells fault s → Tells fault t → s ≡ t
told_once NoData s t a b = a ∙ sym b
told_once (Format event) s t a b = a ∙ sym b
told_once (NoEvent event) s t a b = a ∙ sym b
told_once (Blank event) s t a b = a ∙ sym b
told_once TooMany s t a b = a ∙ sym b
told_once NoMemory s t a b = absurd a

-- want of memory isn't told
is_told : {G : Type 0} (fault : BodyFault) (s : HecSay) → Tells fault s → fault ≡ NoMemory → G
is_told fault s a e = let told : Tells NoMemory s = subst (λ f. Tells f s) e a in absurd told

module _ (cuts : OneCut) (line_cuts : OneLineCut) (queries : OneQuery) where
  Once : Result (List (List ℕ)) BodyFault → Result (List (List ℕ)) BodyFault → Type 0
  Once r s = (r ≡ Err NoMemory) ⊎ ((s ≡ Err NoMemory) ⊎ (r ≡ s))

  cut_once : (form : Form) (body : List ℕ) (r s : Result (List (List ℕ)) BodyFault) → IsCutBy form body r → IsCutBy form body s → Once r s
  unfolding Once
  cut_once Objects body r s h k = cuts body r s h k
  cut_once Raw body r s h k = line_cuts body r s h k

  texts_once : (form : Form) (body : List ℕ) (t u : List (List ℕ)) → IsCutBy form body (Ok t) → IsCutBy form body (Ok u) → t ≡ u
  unfolding Once
  texts_once form body t u h k = elim (cut_once form body (Ok t) (Ok u) h k) [ inl e ↦ cc | inr (inl e) ↦ cc | inr (inr e) ↦ cc ]

  no_fault : {G : Type 0} (form : Form) (body : List ℕ) (t : List (List ℕ)) (f : BodyFault) (s : HecSay) → IsCutBy form body (Ok t) → IsCutBy form body (Err f) → Tells f s → G
  unfolding Once
  no_fault form body t f s h k told =
      elim (cut_once form body (Ok t) (Err f) h k) [ inl e ↦ cc | inr (inl e) ↦ is_told f s told (cc) | inr (inr e) ↦ cc ]

  fault_once : (form : Form) (body : List ℕ) (f g : BodyFault) (s t : HecSay) → IsCutBy form body (Err f) → IsCutBy form body (Err g) → Tells f s → Tells g t → f ≡ g
  unfolding Once
  fault_once form body f g s t h k a b =
      elim (cut_once form body (Err f) (Err g) h k) [ inl e ↦ is_told f s a (cc) | inr (inl e) ↦ is_told g t b (cc) | inr (inr e) ↦ cc ]

  events_once : (form : Form) (body : List ℕ) (x y : List Event) → AreEventsOf form body x → AreEventsOf form body y → x ≡ y
  events_once form body x y (t, h, a) (u, k, b) = a ∙ ap (map (event_of form)) (texts_once form body t u h k) ∙ sym b

  says_once : (form : Form) (body : List ℕ) (s t : HecSay) → TellsFaultOf form body s → TellsFaultOf form body t → s ≡ t
  says_once form body s t (f, h, a) (g, k, b) = told_once g s t (subst (λ x. Tells x s) (fault_once form body f g s t h k a b) a) b

  apart : {G : Type 0} (form : Form) (body : List ℕ) (x : List Event) (s : HecSay) → AreEventsOf form body x → TellsFaultOf form body s → G
  apart form body x s (t, h, a) (f, k, b) = no_fault form body t f s h k b

  stores_once : (form : Form) (body : List ℕ) (act other : HecAct) → Stores form body act → Stores form body other → AreAlike act other
  stores_once form body (StoreThenSay x) (StoreThenSay y) h k = events_once form body x.items y.items h k
  stores_once form body (StoreThenSay x) (SayThenStore d y) h k = absurd k
  stores_once form body (StoreThenSay x) (Ask d y) h k = absurd k
  stores_once form body (StoreThenSay x) (Say t) h k = apart form body x.items t h k
  stores_once form body (SayThenStore c x) other h k = absurd h
  stores_once form body (Ask c x) other h k = absurd h
  stores_once form body (Say s) (StoreThenSay y) h k = apart form body y.items s k h
  stores_once form body (Say s) (SayThenStore d y) h k = absurd k
  stores_once form body (Say s) (Ask d y) h k = absurd k
  stores_once form body (Say s) (Say t) h k = says_once form body s t h k

  stores_on_once : (form : Form) (on : ℕ) (body : List ℕ) (act other : HecAct) → StoresOn form on body act → StoresOn form on body other → AreAlike act other
  stores_on_once form on body (StoreThenSay x) other h k = absurd h
  stores_on_once form on body (SayThenStore c x) (StoreThenSay y) h k = absurd k
  stores_on_once form on body (SayThenStore c x) (SayThenStore d y) h k = (h.0 ∙ sym k.0, events_once form body x.items y.items h.1 k.1)
  stores_on_once form on body (SayThenStore c x) (Ask d y) h k = absurd k
  stores_on_once form on body (SayThenStore c x) (Say t) h k = apart form body x.items t h.1 k
  stores_on_once form on body (Ask c x) other h k = absurd h
  stores_on_once form on body (Say s) (StoreThenSay y) h k = absurd k
  stores_on_once form on body (Say s) (SayThenStore d y) h k = apart form body y.items s k.1 h
  stores_on_once form on body (Say s) (Ask d y) h k = absurd k
  stores_on_once form on body (Say s) (Say t) h k = says_once form body s t h k

  asks_once : (on : ℕ) (body : List ℕ) (act other : HecAct) → AsksOn on body act → AsksOn on body other → AreAlike act other
  asks_once on body (StoreThenSay x) other h k = absurd h
  asks_once on body (SayThenStore c x) other h k = absurd h
  asks_once on body (Ask c x) (StoreThenSay y) h k = absurd k
  asks_once on body (Ask c x) (SayThenStore d y) h k = absurd k
  asks_once on body (Ask c x) (Ask d y) h k = (h.0 ∙ sym k.0, queries body x.items y.items h.1 k.1)
  asks_once on body (Ask c x) (Say t) h k = absurd (k.0 x.items h.1)
  asks_once on body (Say s) (StoreThenSay y) h k = absurd k
  asks_once on body (Say s) (SayThenStore d y) h k = absurd k
  asks_once on body (Say s) (Ask d y) h k = absurd (h.0 y.items k.1)
  asks_once on body (Say s) (Say t) h k = h.1 ∙ sym k.1

  acts_once : (body : List ℕ) (task : Result Task HecCode) (act other : HecAct) → IsActFor body task act → IsActFor body task other → AreAlike act other
  acts_once body (Ok (Store form)) act other h k = stores_once form body act other h k
  acts_once body (Ok (StoreOn form channel)) act other h k = stores_on_once form channel body act other h k
  acts_once body (Ok (AskOn channel)) act other h k = asks_once channel body act other h k
  acts_once body (Err code) act other h k =
      let said = Say (say_of code None) in
      subst (λ a. AreAlike a other) (sym h) (subst (λ b. AreAlike said b) (sym k) refl)

  pub one_act : OneAct
  one_act tokens r act other = acts_once r.body (task_of tokens r) act other
