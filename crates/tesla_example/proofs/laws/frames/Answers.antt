use Rattle.std.proofs.Common.{refl}
use Rattle.tesla_frame.specs.Reading.{key_at, optional_key_at, tag_row_at, byte_at, rows_at, byte_within, tag_length_at, payload_at, data_of, body_of, version_at, frame_of}
use Rattle.tesla_example.proofs.laws.frames.Goals as goal

pub returns-clause-first : goal.returns-clause-first
unfolding key_at optional_key_at tag_row_at byte_at rows_at byte_within tag_length_at payload_at data_of body_of version_at frame_of
returns-clause-first c = refl

pub returns-clause-second : goal.returns-clause-second
unfolding key_at optional_key_at tag_row_at byte_at rows_at byte_within tag_length_at payload_at data_of body_of version_at frame_of
returns-clause-second c = refl

pub returns-clause-third : goal.returns-clause-third
unfolding key_at optional_key_at tag_row_at byte_at rows_at byte_within tag_length_at payload_at data_of body_of version_at frame_of
returns-clause-third c = refl
