-- Right because the library compares the bytes from the place on with the four, and past the end of the message there are none.
use Rattle.std.proofs.Common.{◌≡◌, [], ◌∷◌, ◌-◌, ◌≤◌, sym, ap, ◌∙◌, length, take, drop, List, ℕ, arith, length-drop, drop_of_length-le}
use Rattle.std.proofs.lemmas.Bool.{lt-leb}
use lib.Seq.{take_all}
use Rattle.octets.specs.Same.{same_bytes}
use Rattle.protocol_id.proofs.FourBytes.{same_list}
use Rattle.protocol_id.proofs.begins.Goals as goal

pub returns-then-at-m : goal.returns-then-at-m
returns-then-at-m c =
    let a = c.args in
    let m = a.m.now in
    let rest = take_all (length m - a.at) (drop a.at m) (omega (arith, length-drop a.at m)) in
    let four = a.first ∷ 83 ∷ 77 ∷ 66 ∷ [] in
    c.starts_with.ensures.value ∙ same_list (take 4 (take (length m - a.at) (drop a.at m))) four
    ∙ ap (λ (x : List ℕ). same_bytes (take 4 x) four) rest

pub returns-else-at-m : goal.returns-else-at-m
unfolding same_bytes
returns-else-at-m c =
    let a = c.args in
    let m = a.m.now in
    let past : length m ≤ a.at = omega (arith, c.if-at-m.false) in
    let four = a.first ∷ 83 ∷ 77 ∷ 66 ∷ [] in
    lt-leb a.at (length m) c.if-at-m.false ∙ ap (λ (x : List ℕ). same_bytes (take 4 x) four) (sym (drop_of_length-le m past))
