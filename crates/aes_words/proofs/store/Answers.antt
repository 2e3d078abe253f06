-- Right because each byte is the low byte of its column, shifted down.
use mathlib.Core.Path.{refl}
use Rattle.aes_words.specs.Words.{state_of, bytes_of}
use Rattle.aes_words.proofs.WordLaws.{cons}
use Rattle.aes_words.proofs.store.Goals as goal

pub returns : goal.returns
unfolding state_of bytes_of
returns c =
    cons c.low.ensures
    (cons c.low-2.ensures
    (cons c.low-3.ensures
    (cons c.low-4.ensures
    (cons c.low-5.ensures
    (cons c.low-6.ensures
    (cons c.low-7.ensures
    (cons c.low-8.ensures
    (cons c.low-9.ensures
    (cons c.low-10.ensures
    (cons c.low-11.ensures
    (cons c.low-12.ensures
    (cons c.low-13.ensures
    (cons c.low-14.ensures
    (cons c.low-15.ensures
    (cons c.low-16.ensures
    refl)))))))))))))))
