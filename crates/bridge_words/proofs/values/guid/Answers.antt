use Rattle.std.proofs.Common.{◌≡◌, refl, false, true, Option, None, Some, option_map}
use Rattle.std.specs.Int.{from_be_bytes, w128}
use Rattle.uuid.specs.Text.{parsed}
use Rattle.bridge_words.proofs.values.guid.Goals as goal

none_of : {A B : Type 0} (f : A → B) (o : Option A) → (((x : A) × (o ≡ Some x)) → false ≡ true) → None ≡ option_map f o
none_of f None never = refl
none_of f (Some x) never = let impossible = never (x, refl) in cc

pub returns-in-Err : goal.returns-in-Err
returns-in-Err c = none_of (from_be_bytes w128) (parsed c.args.text.now) c.in-Err.ensures.ok.1
