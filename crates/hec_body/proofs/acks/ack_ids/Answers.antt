use Rattle.std.proofs.Common.{rules, ◌≡◌, ◌≤◌, Some, None, codes, length, ◌∙◌, ap, arith}
use Rattle.std.specs.Prelude.{option_and_then}
use Rattle.serde_json.specs.Data.{Items}
use Rattle.serde_json.specs.Find.{get, as_array}
use Rattle.serde_json.specs.View.{view, items_view}
use Rattle.hec_body.specs.Acks.{numbers, distinct}
use Rattle.hec_body.proofs.AckLaws.{length-items_view, distinct_is, length-distinct}
use Rattle.hec_body.proofs.Queries.{is_query, query_acks}
use Rattle.hec_body.proofs.acks.ack_ids.Goals as goal
use Rattle.hec_body.proofs.acks.ack_ids.Goals.{in_default-via-in-Some+else-len-le-MOST_IDS, in_default-via-in_default}

same_items : (ds es : Items) → Some ds ≡ Some es → ds ≡ es
same_items ds es e = cc

no_items_found : (ds : Items) → None ≡ Some ds → ⊥
no_items_found ds e = cc

pub returns-in-Some-clause-ids : goal.returns-in-Some-clause-ids
returns-in-Some-clause-ids c =
    let values = c.in-Some.values.now.items in
    let asked = c.in_ok-asked-in-Some.asked.items in
    let acks : option_and_then as_array (get (codes "acks") (view c.in_ok-query.query)) ≡ Some (items_view values) = search rules in
    let found : items_view values ≡ numbers asked = search rules in
    let few : length values ≤ 10000 = search rules in
    let ids : c.in_ok-first_of_each-in-Some.field-0.items ≡ distinct asked = search rules in
    (asked, is_query c.args.body.now (view c.in_ok-query.query) (items_view values) asked c.in_ok-query.ensures.ok.0 c.in_ok-query.ensures.ok.1 acks found (omega (arith, length-items_view values asked found, few)), ids)

pub returns-clause-format : goal.returns-clause-format
returns-clause-format c = λ _ ids asks.
    let acks = query_acks c.args.body.now (view c.in_ok-query.query) asks.0 c.in_ok-query.ensures.ok.1 asks.1 in
    elim c.in_default.branch [
      | in_default-via-in-Some+else-len-le-MOST_IDS w ↦
          let found : items_view w.in-Some.values.now.items ≡ numbers asks.0 = same_items (items_view w.in-Some.values.now.items) (numbers asks.0) (w.in-Some.ensures ∙ acks) in
          let long : length w.in-Some.values.now.items ≡ w.len.result = search rules in
          absurd (omega (arith, length-items_view w.in-Some.values.now.items asks.0 found, long, asks.1.few, w.if-len-le-MOST_IDS.false))
      | in_default-via-in_default w ↦ no_items_found (numbers asks.0) (w.in_default.ensures ∙ acks)
    ]

pub returns-in-Some-clause-distinct : goal.returns-in-Some-clause-distinct
returns-in-Some-clause-distinct c =
    let ids : c.in_ok-first_of_each-in-Some.field-0.items ≡ distinct c.in_ok-asked-in-Some.asked.items = search rules in
    rw ids (distinct_is c.in_ok-asked-in-Some.asked.items)

pub returns-in-Some-clause-few : goal.returns-in-Some-clause-few
returns-in-Some-clause-few c =
    let values = c.in-Some.values.now.items in
    let asked = c.in_ok-asked-in-Some.asked.items in
    let found : items_view values ≡ numbers asked = search rules in
    let few : length values ≤ 10000 = search rules in
    let ids : c.in_ok-first_of_each-in-Some.field-0.items ≡ distinct asked = search rules in
    omega (arith, ap length ids, length-distinct asked, length-items_view values asked found, few)
