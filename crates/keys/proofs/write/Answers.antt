-- Right because each copy lengthens the front of the place that is written, up to the place's end.
-- Assumes nothing.
use mathlib.Core.Path.{ap, ◌∙◌}
use mathlib.Core.List.{[], ◌++◌}
use Prim.Native.Nat.{ℕ, ◌+◌}
use native.Mathlib.Omega.{arith}
use lib.ListN.{length, take}
use Rattle.dialects.specs.Reading.{wide_in}
use Rattle.keys.proofs.PlaceLaws.{begun, further, written-whole, place_size}
use borrow.Author.Rules.{rules}
use Rattle.keys.proofs.write.Goals as goal

pub returns : goal.returns
returns c =
    let a = c.args in
    let n = c.key_bytes-n.result in
    let f = take n a.keys.client_to_server in
    let s = take n a.keys.server_to_client in
    let all = length a.place.now in
    let pre = c.requires ∙ place_size (wide_in a.size) in
    let w0 = begun a.place.now in
    let w1 = further all 0 16 [] _ a.keys.signing _ w0 (omega arith) (search rules) c.copy.ensures in
    let w2 = further all 16 16 _ _ a.keys.application _ w1 (omega arith) (search rules) c.copy-2.ensures in
    let w3 = further all 32 n _ _ f _ w2 (omega arith) (search rules) c.copy-3.ensures in
    let w4 = further all (32 + n) n _ _ s _ w3 (omega arith) (search rules) c.copy-4.ensures in
    let k = a.keys in
    written-whole all _ k.signing k.application f s _ (omega (arith, c.key_bytes-n.ensures)) w4
    ∙ ap (λ (m : ℕ). k.signing ++ (k.application ++ (take m k.client_to_server ++ take m k.server_to_client))) c.key_bytes-n.ensures
