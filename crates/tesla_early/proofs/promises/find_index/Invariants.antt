use Rattle.std.proofs.Common.{◌≡◌, length, take}
use Rattle.std.specs.Prelude.{find, slice_get, None}
use Rattle.sha2.specs.Sha256.{sha256}
use Rattle.tesla_links.specs.Lists.{list_of}
use Rattle.tesla_early.specs.Ring.{IsDigest, is_found}
use Rattle.tesla_early.proofs.promises.find_index.Given as goal

-- no promise of the places so far is found, and the next place stands behind them
abbrev pub invariant-loop : goal.invariant-loop
invariant-loop l = record {
  end : l.end ≡ length (list_of l.buckets l.bucket);
  next : l.next ≡ slice_get (list_of l.buckets l.bucket) l.counter;
  none : find (is_found l.slots l.name (sha256 l.payload)) (take l.counter (list_of l.buckets l.bucket)) ≡ None;
  digest : IsDigest l.digest l.payload;
}
