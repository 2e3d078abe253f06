-- Right because the head is read from the bytes from `at` on, and a payload that is not all there is unreadable (FormatLaws).
-- Assumes nothing.
use Rattle.std.proofs.Common.{◌≡◌, ℕ, ◌-◌, ap, ◌∙◌, arith, length, take, drop}
use Rattle.std.proofs.lemmas.List.{length-drop}
use Rattle.std.proofs.lemmas.Result.{err_from_is_err_and}
use Rattle.octets.proofs.Paste.{part_all}
use Rattle.trace_format.specs.Format.{Bytes, Edition, HeadReading, edition_of, read_head}
use Rattle.trace_format.proofs.FormatLaws.{at-end, at_bad, at_cut, at-found, headed}
use Rattle.trace_reader.proofs.read_record.Goals as goal

-- the bytes as the code lends them are those from the place on
lent : (e : Edition) (f : Bytes) (at : ℕ) {h : HeadReading} → h ≡ read_head e (take (length f - at) (drop at f)) → h ≡ read_head e (drop at f)
lent e f at t = t ∙ ap (read_head e) (part_all f at)

pub returns-then-file-at : goal.returns-then-file-at
returns-then-file-at c = at-end (edition_of c.args.edition) c.args.file.now c.args.at c.if-file-at.true

pub returns-in_err-head : goal.returns-in_err-head
returns-in_err-head c =
    let e = edition_of c.args.edition in
    let p = err_from_is_err_and c.from_residual.result c.from_residual.ensures.1 in
    rw p.1 (at_bad e c.args.file.now c.args.at c.if-file-at.false (lent e c.args.file.now c.args.at c.in_err-head.ensures))

pub overflow_sub-file-2 : goal.overflow_sub-file-2
overflow_sub-file-2 c =
    let e = edition_of c.args.edition in
    let h = headed e (drop c.args.at c.args.file.now) _ _ _ (lent e c.args.file.now c.args.at c.in_ok-head.ensures) in
    omega (arith, length-drop c.args.at c.args.file.now)

pub returns-then-file-at-2 : goal.returns-then-file-at-2
returns-then-file-at-2 c =
    let e = edition_of c.args.edition in
    at_cut e c.args.file.now c.args.at c.if-file-at.false _ _ _ (lent e c.args.file.now c.args.at c.in_ok-head.ensures) c.if-file-at-2.true

pub returns : goal.returns
returns c =
    let e = edition_of c.args.edition in
    at-found e c.args.file.now c.args.at c.if-file-at.false _ _ _ (lent e c.args.file.now c.args.at c.in_ok-head.ensures) c.if-file-at-2.false
