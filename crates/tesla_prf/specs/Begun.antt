-- What the hashes of an evaluation of HMAC have taken in before the text.
use Rattle.std.specs.Prelude.{List, ℕ}
use Rattle.sha2.specs.Hashers.{Holds256}
use Rattle.tesla_prf.specs.declared.hmac.Begun.{Begun}
use Rattle.tesla_prf.specs.Hmac.{block_key, padded_with}

-- this key's block: the inner hash under the inner pad, the outer hash under the outer pad
pub record BegunUnder (begun : Begun) (key : List ℕ) : Type 0 where
  pub inner : Holds256 begun.inner (padded_with 0x36 (block_key key))
  pub outer : Holds256 begun.outer (padded_with 0x5c (block_key key))
