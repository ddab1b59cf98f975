-- What a request that goes out leaves in the tables: it no longer waits for its host's address, and waits for its answer (000 A9:69, 72, 73).
use Rattle.std.specs.Prelude.{◌≡◌, List, [], ◌∷◌, ℕ}
use Rattle.types.specs.declared.Address.{Address}
use Rattle.types.specs.declared.Fresh.{Fresh}
use Rattle.types.specs.Perhaps.{Seal}
use Rattle.types.specs.declared.rows.Question.{Question}
use Rattle.sorted.specs.Table.{put, drop}
use Rattle.tables.specs.Tables.{pending_dns, pending_requests, key_of, Tables, apply}
use Rattle.wim.specs.Program.{Program}
use Rattle.wim.specs.Main.{waiting_of}
use Rattle.pending_dns.specs.Tidied.{tidied}
use Rattle.stepping.specs.Gives.{Performed}
use Rattle.stepping.specs.Performs.{Performs}

abbrev pub handed_over : Question → Seal → Address → Tables → Tables
handed_over q seal address w = apply pending_dns (drop (key_of pending_dns q) ∷ []) (apply pending_requests (put (waiting_of q seal address) ∷ []) w)

-- what is done for a question with a tidy header, as every one is that a memory holds
pub record OfTidy (q : Question) (p : Program) (f : Fresh) (m n : List ℕ) (r : Performed) : Type 0 where
  pub performs : tidied q ≡ q → Performs p f m n r
