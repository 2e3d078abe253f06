-- Right because hashing the parts one after the other hashes the one string that they make.
use mathlib.Core.Path.{ap, ◌∙◌}
use Rattle.octets.specs.Numbers.{to_big_endian}
use Rattle.gcm.proofs.HashParts.{hash_parts}
use Rattle.gcm.proofs.tags.hash.Goals as goal

pub returns : goal.returns
returns c =
    let args = c.args in
    c.block_of.ensures
    ∙ ap (to_big_endian 16)
    (hash_parts args.k.now args.aad.now args.body.now _ _ _ _
    c.start.ensures c.update-y.ensures c.update-z.ensures c.update_lengths-s.ensures)
