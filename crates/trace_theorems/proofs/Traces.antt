-- The statements about traces, all together.
-- Assumes nothing.
use mathlib.Core.List.{◌++◌}
use mathlib.Core.Path.{sym, ap, ◌∙◌}
use Rattle.trace_format.specs.Format.{edition_of}
use Rattle.trace_format.specs.Records.{record_bytes, writable, file_head_bytes}
use Rattle.trace_theorems.specs.Traces.{Traces}
use Rattle.trace_theorems.proofs.RoundTrip.{sound, reads, read_writable}
use Rattle.trace_theorems.proofs.Lists.{calls_read, whole-file, file_read, head_back, read_written, all_read_writable}
use Rattle.trace_theorems.proofs.ByCalls.{found_all, found_none, written-found}
use Rattle.trace_theorems.proofs.Apart.{same_readable, same_record}
use Rattle.trace_theorems.proofs.Editions.{other_edition, first_read, one_written, first-refuses}

pub traces : Traces
traces =
    record {
      writes_what_is_read =
          record {
            record_read = λ n r rest w. let q = reads (edition_of n) (sound n) r rest w in (q.is_readable, q.same);
            record_written = λ n r rest q same. ap (writable (edition_of n)) (sym same) ∙ read_writable (edition_of n) (record_bytes (edition_of n) r ++ rest) q;
            head_read = λ n d c rest hn hd k. (file_read n d c rest k hn hd).0;
            head-written = λ n d c rest t. head_back (file_head_bytes n d c ++ rest) n d c t;
          };
      writing_then_reading =
          record {
            calls_read = calls_read;
            file_read = λ n d c rs hn hd k w. whole-file n d c rs k hn hd w;
            written-again = λ n s o. (read_written n o, all_read_writable n s);
          };
      reading_by_calls =
          record {
            found_all = found_all;
            found_none = found_none;
            written-found = λ d c n rs w l hd hc four h first. written-found d c w hd hc four n rs l first h;
          };
      reading_apart =
          record {
            other_edition = other_edition edition_of;
            front-enough = λ n m s four holds. (same_readable (edition_of n) m s four holds, same_record (edition_of n) m s four holds);
          };
      two_editions = record { first_read = first_read; one_written = one_written; first-refuses = first-refuses };
    }
