-- How far a session is, step by step.
use Rattle.std.proofs.Common.{◌≡◌, ℕ, ◌+◌, ◌<◌, ◌≤◌, ◌^◌, Bool, true, false, List, [], ◌∷◌, ◌++◌, length, take, ap, ◌∙◌, sym, subst, arith, length-append}
use Rattle.std.specs.Prelude.{Ok}
use Rattle.std.proofs.lemmas.List.{append-nil, map-append}
use Rattle.event_form.specs.declared.event.Entry.{Entry}
use Rattle.spool_answers.specs.Pend.{AreNumbered}
use Rattle.spool_answers.specs.declared.numbered.Numbered.{Numbered}
use Rattle.desk_access.specs.Call.{Call, pends, marks}
use Rattle.forward_core.specs.Calls.{asked_from, entries_of, read_of, within}
use Rattle.forward_core.specs.Course.{SameTold, TellsFirst, TellsOne}
use Rattle.forward_core.specs.Moments.{LeadsBy}
use Rattle.forward_core.specs.Reading.{Added}
use Rattle.forward_core.specs.Session.{Stands}
use Rattle.forward_core.specs.declared.course.Course.{Course}
use Rattle.forward_core.proofs.Desk.{added_on, marked_on, read_marked, read_more, told_first_on, told_one_on, unmarked_on}

-- what is so of the entries, the bytes fed, the text and the places told one by one
abbrev pub History : Type 1
History = List Entry → List ℕ → List ℕ → List ℕ → Type 0

-- nothing was done but that the sender changed
pub stands_as : (Has Has' : History) (marked : Bool) (total : ℕ) (c : Course) (start : ℕ) (bytes : List ℕ) (calls : List Call) (text : List ℕ) → ((entries : List Entry) (fed out also : List ℕ) → Has entries fed out also → Has' entries fed out also)
    → Stands Has marked total c start bytes calls text → Stands Has' marked total c start bytes calls text
stands_as Has Has' marked total c start bytes calls text on s = record { also = s.also; sized = s.sized; sent = on _ _ _ _ s.sent; desk = s.desk }

-- a text was written
pub stands_text : (Has Has' : History) (marked : Bool) (total : ℕ) (c : Course) (start : ℕ) (bytes : List ℕ) (calls : List Call) (text more : List ℕ) → ((entries : List Entry) (fed out also : List ℕ) → Has entries fed out also → Has' entries fed (out ++ more) also)
    → Stands Has marked total c start bytes calls text → Stands Has' marked total c start bytes calls (text ++ more)
stands_text Has Has' marked total c start bytes calls text more on s = record { also = s.also; sized = s.sized; sent = on _ _ _ _ s.sent; desk = s.desk }

-- bytes were read and fed
pub stands_heard : (Has Has' : History) (marked : Bool) (total now : ℕ) (c : Course) (start : ℕ) (bytes : List ℕ) (calls : List Call) (text piece : List ℕ) → now ≡ total + length piece
    → ((entries : List Entry) (fed out also : List ℕ) → Has entries fed out also → Has' entries (fed ++ piece) out also) → Stands Has marked total c start bytes calls text → Stands Has' marked now c start (bytes ++ piece) calls text
stands_heard Has Has' marked total now c start bytes calls text piece counted on s = record {
  also = s.also;
  sized = omega (arith, counted, s.sized, length-append bytes piece);
  sent = on _ _ _ _ s.sent;
  desk = s.desk;
}

-- more of the first entries were told
pub stands_first : (Has : History) (marked : Bool) (total told : ℕ) (old new : Course) (start : ℕ) (bytes : List ℕ) (calls : List Call) (text : List ℕ) → old.told < told → told ≤ old.given → TellsFirst told old new
    → Stands Has marked total old start bytes calls text → Stands Has marked total new start bytes calls text
stands_first Has marked total told old new start bytes calls text less few tells s = record {
  also = s.also;
  sized = s.sized;
  sent = subst (λ (e : ℕ). Has (entries_of (read_of e calls)) bytes text s.also) (sym tells.rest.end) s.sent;
  desk = told_first_on marked start told old new s.also calls less few tells s.desk;
}

-- an entry was told by itself
pub stands_one : (Has Has' : History) (marked : Bool) (total place : ℕ) (old new : Course) (start : ℕ) (bytes : List ℕ) (calls : List Call) (text : List ℕ) → old.told ≤ place → place < old.given → TellsOne place old new
    → ((entries : List Entry) (fed out also : List ℕ) → Has entries fed out also → Has' entries fed out (also ++ place ∷ [])) → Stands Has marked total old start bytes calls text → Stands Has' marked total new start bytes calls text
stands_one Has Has' marked total place old new start bytes calls text after less tells on s = record {
  also = s.also ++ place ∷ [];
  sized = s.sized;
  sent = subst (λ (e : ℕ). Has' (entries_of (read_of e calls)) bytes text (s.also ++ place ∷ [])) (sym tells.rest.end) (on _ _ _ _ s.sent);
  desk = told_one_on marked start place old new s.also calls after less tells s.desk;
}

-- what is told was marked
pub stands_marked : (Has : History) (marked : Bool) (total : ℕ) (old new : Course) (start : ℕ) (bytes : List ℕ) (calls : List Call) (text : List ℕ) → new.marks.items ≡ take 1 old.marks.items → SameTold old new
    → Stands Has marked total old start bytes calls text → Stands Has true total new start bytes (calls ++ marks old.marks.items (Ok tt) ∷ []) text
stands_marked Has marked total old new start bytes calls text ms same s = record {
  also = s.also;
  sized = s.sized;
  sent = subst (λ (l : List Numbered). Has (entries_of l) bytes text s.also) (sym (read_marked new.end calls old.marks.items)) (subst (λ (e : ℕ). Has (entries_of (read_of e calls)) bytes text s.also) (sym same.rest.end) s.sent);
  desk = marked_on marked start old new s.also calls ms same s.desk;
}

-- no entries more come
pub stands_over : (Has Has' : History) (total : ℕ) (old new : Course) → new.next ≡ old.next → new.end ≡ old.end → new.given ≡ old.given → new.told ≡ old.told → new.numbers.items ≡ old.numbers.items → new.marks.items ≡ old.marks.items
    → ((entries : List Entry) (fed out also : List ℕ) → Has entries fed out also → Has' entries fed out also) → LeadsBy (Stands Has true total old) (Stands Has' false total new) []
stands_over Has Has' total old new n e g t ns ms on start bytes before out s =
    subst (λ (l : List Call). Stands Has' false total new start bytes l out) (sym (append-nil before))
    (record {
      also = s.also;
      sized = s.sized;
      sent = subst (λ (k : ℕ). Has' (entries_of (read_of k before)) bytes out s.also) (sym e) (on _ _ _ _ s.sent);
      desk = unmarked_on start old new s.also before n e g t ns ms s.desk;
    })

-- entries were read and given
pub stands_added : (Has Has' : History) (total : ℕ) (old new : Course) (listed : List Numbered) → old.next < old.end → old.told ≤ old.given → AreNumbered 0 (2 ^ 63) listed → length listed ≤ asked_from old.end old.next → Added listed old new
    → ((entries : List Entry) (fed out also : List ℕ) → Has entries fed out also → Has' (entries ++ entries_of (within old.next old.end listed)) fed out also)
    → LeadsBy (Stands Has true total old) (Stands Has' false total new) (pends old.next (asked_from old.end old.next) (Ok listed) ∷ [])
stands_added Has Has' total old new listed more few are count adds on start bytes before out s =
    let call : Call = pends old.next (asked_from old.end old.next) (Ok listed) in
    let split : entries_of (read_of old.end (before ++ call ∷ [])) ≡ entries_of (read_of old.end before) ++ entries_of (within old.next old.end listed) =
    ap entries_of (read_more old.next old.end (asked_from old.end old.next) before listed) ∙ map-append (λ (one : Numbered). one.entry) (read_of old.end before) (within old.next old.end listed) in
    record {
      also = s.also;
      sized = s.sized;
      sent = subst (λ (k : ℕ). Has' (entries_of (read_of k (before ++ call ∷ []))) bytes out s.also) (sym adds.end)
          (subst (λ (l : List Entry). Has' l bytes out s.also) (sym split) (on _ _ _ _ s.sent));
      desk = added_on start old new s.also before listed more few are count adds s.desk;
    }
