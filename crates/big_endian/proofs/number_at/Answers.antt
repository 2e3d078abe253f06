-- Right because the N bytes behind zeros are a number of eight bytes, which the library reads (high_word).
-- Assumes nothing.
use Rattle.std.proofs.Common.{rules, ◌≡◌, ◌∙◌, ap, ℕ, ◌-◌, List, length, replicate}
use Rattle.std.specs.Int.{w64, from_be_bytes}
use Rattle.std.proofs.Math.Seq.{paste}
use Rattle.octets.specs.Numbers.{big_endian, bytes_at}
use Rattle.octets.proofs.LibraryNumbers.{high_word, high_bound}
use Rattle.big_endian.proofs.number_at.Goals as goal

pub returns-clause-value : goal.returns-clause-value
returns-clause-value g c =
    let bs : List ℕ = bytes_at c.args.at g.row.N c.args.b.now in
    let n : length bs ≡ g.row.N = search rules in
    let word : c.copy.new.dst ≡ paste (replicate 8 0) (8 - g.row.N) bs (length bs) =
    c.copy.ensures ∙ ap (λ (xs : List ℕ). paste (replicate 8 0) (8 - g.row.N) xs (length xs)) (search rules) in
    c.from_be_bytes.ensures ∙ ap (from_be_bytes w64) word ∙ high_word bs g.row.N c.requires.fits n

pub returns-clause-bound : goal.returns-clause-bound
returns-clause-bound g c =
    let value : c.from_be_bytes.result ≡ big_endian (bytes_at c.args.at g.row.N c.args.b.now) = returns-clause-value g c in
    rw value (high_bound c.args.b.now c.args.at g.row.N (λ i. (c.type_inv.b i).fits) c.requires.within)
