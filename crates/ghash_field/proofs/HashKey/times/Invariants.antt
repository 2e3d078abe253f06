-- Right because each turn takes the next four bits of both words in, and 128 steps reduce the sum.
use Rattle.std.proofs.Common.{◌≡◌, ◌*◌, ◌^◌, ◌<◌}
use Rattle.ghash_field.specs.Elements.{wide_of, subkey}
use Rattle.ghash_field.proofs.Turns.{Summed, rest}
use Rattle.ghash_field.proofs.HashKey.times.Given as goal

abbrev pub invariant-loop-k : goal.invariant-loop-k
invariant-loop-k l =
    Summed l._k l.initial.p l.initial.q (subkey l.self-inside.products) (wide_of l.w) × (l.w.w3 < 2 ^ (4 * l._k)) × (l.p ≡ rest l._k l.initial.p)
    × (l.q ≡ rest l._k l.initial.q)
