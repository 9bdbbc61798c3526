use Rattle.std.proofs.Common.{refl}
use Rattle.sha2.specs.Sha256.{sha256, digest_bytes, hash_after, compress, rounds, schedule, first_words}
use Rattle.tesla_prf.specs.Hmac.{hmac_of}
use Rattle.tesla_prf.specs.Keys.{walk}
use Rattle.tesla_example.proofs.laws.keys.Goals as goal

pub returns-clause-commitment : goal.returns-clause-commitment
unfolding walk hmac_of sha256 digest_bytes hash_after compress rounds schedule first_words
returns-clause-commitment c = refl

pub returns-clause-authentic : goal.returns-clause-authentic
unfolding walk hmac_of sha256 digest_bytes hash_after compress rounds schedule first_words
returns-clause-authentic c = refl

pub returns-clause-forged : goal.returns-clause-forged
unfolding walk hmac_of sha256 digest_bytes hash_after compress rounds schedule first_words
returns-clause-forged c = refl
