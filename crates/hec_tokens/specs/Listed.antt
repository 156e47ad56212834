-- When lists of tokens are the same.
use Rattle.std.specs.Prelude.{Bool, nat_eq, List}
use Rattle.std.proofs.Math.Bool.{beq}
use Rattle.std.specs.Cmp.Lexicographic.{pointwise}
use Rattle.std.specs.Ordering.{on, eq_of_both}
use Rattle.hec_tokens.specs.declared.list.ListedToken.{ListedToken}

-- the same GUID, with acks in both or in neither
abbrev pub is_same_token : ListedToken → ListedToken → Bool
is_same_token = eq_of_both (on (λ token. token.guid) nat_eq) (on (λ token. token.acks) beq)

-- the same tokens in the same order
abbrev pub is_same_list : List ListedToken → List ListedToken → Bool
is_same_list = pointwise is_same_token
