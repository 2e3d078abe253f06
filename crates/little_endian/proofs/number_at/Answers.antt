-- Right because the N bytes before zeros are a number of eight bytes, which the library reads (low_word).
-- Assumes nothing.
use Rattle.std.proofs.Common.{rules, ◌≡◌, ◌∙◌, ap, ℕ, ◌+◌, List, length, replicate}
use Rattle.std.specs.Int.{w64, from_le_bytes}
use Rattle.std.specs.List.{between}
use Rattle.std.proofs.Math.Seq.{paste}
use Rattle.octets.specs.Numbers.{little_endian, bytes_at}
use Rattle.octets.proofs.LibraryNumbers.{low_word, low_bound}
use Rattle.little_endian.proofs.number_at.Goals as goal

pub returns-clause-value : goal.returns-clause-value
returns-clause-value g c =
    let bs : List ℕ = bytes_at c.args.at g.row.N c.args.b.now in
    let n : length bs ≡ g.row.N = search rules in
    let part : between c.args.at (c.args.at + g.row.N) c.args.b.now ≡ bs = search rules in
    let word : c.copy.new.dst ≡ paste (replicate 8 0) 0 bs (length bs) =
    c.copy.ensures ∙ ap (λ (xs : List ℕ). paste (replicate 8 0) 0 xs (length xs)) part in
    c.from_le_bytes.ensures ∙ ap (from_le_bytes w64) word ∙ low_word bs g.row.N c.requires.fits n

pub returns-clause-bound : goal.returns-clause-bound
returns-clause-bound g c =
    let value : c.from_le_bytes.result ≡ little_endian (bytes_at c.args.at g.row.N c.args.b.now) = returns-clause-value g c in
    rw value (low_bound c.args.b.now c.args.at g.row.N (λ i. (c.type_inv.b i).fits) c.requires.within)
