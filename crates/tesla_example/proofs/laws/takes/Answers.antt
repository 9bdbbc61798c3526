use Rattle.std.proofs.Common.{refl}
use Rattle.sha2.specs.Sha256.{sha256, digest_bytes, hash_after, compress, rounds, schedule, first_words}
use Rattle.tesla_prf.specs.Hmac.{hmac_of}
use Rattle.tesla_prf.specs.Keys.{walk}
use Rattle.tesla_clock.specs.Schedule.{bound_of}
use Rattle.tesla_frame.specs.Reading.{key_at, optional_key_at, tag_row_at, byte_at, rows_at, byte_within, tag_length_at, payload_at, data_of, body_of, version_at, frame_of}
use Rattle.tesla_receiver.specs.Keys.{newest, fresh_keys}
use Rattle.tesla_receiver.specs.Packets.{candidates, released}
use Rattle.tesla_receiver.specs.Held.{held_of}
use Rattle.tesla_receiver.specs.Answer.{verdict_of}
use Rattle.tesla_receiver.specs.History.{reply_to}
use Rattle.tesla_example.proofs.laws.takes.Goals as goal

pub returns-clause-first : goal.returns-clause-first
unfolding sha256 digest_bytes hash_after compress rounds schedule first_words hmac_of walk bound_of key_at optional_key_at tag_row_at byte_at rows_at byte_within tag_length_at payload_at data_of body_of version_at frame_of newest fresh_keys candidates released held_of verdict_of reply_to
returns-clause-first c = refl

pub returns-clause-second : goal.returns-clause-second
unfolding sha256 digest_bytes hash_after compress rounds schedule first_words hmac_of walk bound_of key_at optional_key_at tag_row_at byte_at rows_at byte_within tag_length_at payload_at data_of body_of version_at frame_of newest fresh_keys candidates released held_of verdict_of reply_to
returns-clause-second c = refl
