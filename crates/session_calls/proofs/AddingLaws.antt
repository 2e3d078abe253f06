-- Adding, a way out at a time: the numbers in their order, and the record out of the derived keys.
-- Assumes nothing.
use mathlib.Core.Path.{◌≡◌, refl, sym, ap, ◌∙◌}
use mathlib.Core.Bool.{Bool, true, false, cond, ◌||◌}
use mathlib.Core.List.{List}
use Rattle.std.specs.Prelude.{Result, Ok, Err}
use Prim.Native.Nat.{ℕ}
use lib.ListN.{replicate}
use Rattle.octets.specs.Blocks.{zero_padded}
use Rattle.protocol.specs.Bytes.{Bytes}
use Rattle.protocol.specs.Answer.{Answer, done, answer_number, when_done, Test, first_of}
use Rattle.protocol.specs.Connection.{is_wide, cipher_key_bytes}
use Rattle.protocol.specs.Keys as rules
use Rattle.protocol.specs.SessionTable as table
use Rattle.protocol.specs.Calls.{add_tests}
use Rattle.protocol.specs.Suite.{kdf}
use Rattle.protocol.proofs.Judging.{judge-passed}
use Rattle.answer.specs.declared.refusal.Refusal.{Refusal}
use Rattle.answer.specs.Reading.{number_of, number_in}
use Rattle.answer.proofs.Results.{passed, refuses_with}
use Rattle.connection.specs.Reading.{bit_of}
use Rattle.derived_keys.specs.declared.Keys.{Keys}
use Rattle.derived_keys.specs.Reading as keys
use Rattle.session_record.specs.declared.Adding.{Adding}
use Rattle.session_record.specs.declared.Session.{Session}
use Rattle.session_record.specs.Reading.{stored}
use Rattle.session_record.specs.Adds.{adding_of, record_with, AddsWith}

-- ---- the record

-- the zero key of either size, as it is stored
zero-stored : (wide : Bool) → table.zero_key 32 ≡ zero_padded 32 (table.zero_key (cipher_key_bytes wide))
unfolding zero_padded
zero-stored true = refl
zero-stored false = refl

module _ (a : Adding) (wide : Bool) (k : rules.Keys) where
  abbrev with : Bytes → Bytes → Session
  with f g =
      record {
        id = a.id;
        counter = 0;
        signing = k.signing;
        application = k.application;
        client_to_server = f;
        server_to_client = g;
        used = 1;
        guest = bit_of a.guest;
        anonymous = bit_of a.anonymous;
        wide = bit_of wide;
        spare = replicate 4 0;
      }

  abbrev new : Bool → table.Session
  new bare =
      record {
        used = true;
        id = a.id;
        guest = a.guest;
        anonymous = a.anonymous;
        wide = wide;
        keys = table.keys_held bare (cipher_key_bytes wide) k;
        counter = 0;
      }

  held-stored : (bare : Bool)
      → with (cond bare (table.zero_key 32) (zero_padded 32 k.client_to_server)) (cond bare (table.zero_key 32) (zero_padded 32 k.server_to_client))
      ≡ stored (new bare)
  held-stored true = λ i. with (zero-stored wide i) (zero-stored wide i)
  held-stored false = refl

-- ---- the ways out: r is what the tests say

module _ (a : Adding) (chain material : Bytes) (taken room : Bool) (r : Result (Unit {0}) Refusal)
    (says : number_in r ≡ first_of (add_tests (adding_of a chain material) taken room)) (old : Session) where
  abbrev x : table.Adding
  x = adding_of a chain material

  abbrev tests : List Test
  tests = add_tests x taken room

  pub add-refused : (why : Refusal) → r ≡ Err why → AddsWith x taken room old (number_of why) old
  add-refused why o =
      let q = refuses_with tests refl r why (done 0) says o in
      record {
        number = sym (ap answer_number q);
        session = sym (ap (λ (v : Answer). when_done v (λ k. stored (table.new_record kdf x)) old) q);
      }

  made : record_with a (keys.stored (rules.derived_keys kdf a.dialect a.cipher chain material)) ≡ stored (table.new_record kdf x)
  unfolding record_with
  made = held-stored a (is_wide a.dialect a.cipher) (rules.derived_keys kdf a.dialect a.cipher chain material) (a.guest || a.anonymous)

  pub add_done : (y : Unit {0}) → r ≡ Ok y → (k : Keys) (s : Session) → k ≡ keys.stored (rules.derived_keys kdf a.dialect a.cipher chain material)
      → s ≡ record_with a k → AddsWith x taken room old 0 s
  add_done y o k s ek es =
      let q = judge-passed tests (done 0) (passed tests refl r y says o) in
      record {
        number = sym (ap answer_number q);
        session = es ∙ ap (record_with a) ek ∙ made ∙ sym (ap (λ (v : Answer). when_done v (λ k. stored (table.new_record kdf x)) old) q);
      }
