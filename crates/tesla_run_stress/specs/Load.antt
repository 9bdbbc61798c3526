-- A load: a sender's messages, and what of them comes to a receiver.
use Rattle.std.specs.Prelude.{ℕ, zero, suc, ◌+◌, ◌-◌, ◌*◌, ◌/◌, ◌%◌, ◌&&◌, List, [], ◌∷◌, ◌++◌, map, flat_map, Option, Some, None, Result, Ok, Err, nat_lt, nat_le, ◌==◌, if◌then◌else◌, slice_index, slice_set, bit_xor}
use Rattle.std.specs.Int.{w64, to_be_bytes}
use Rattle.std.specs.List.{range_with_len}
use Rattle.tesla_capture.specs.Capture.{Record, Arrives, Takes}
use Rattle.tesla_frame.specs.Frame.{Frame, frame_text}
use Rattle.tesla_sender.specs.Made.{Call, Message, Stream, made_disclosure, made_message}

-- ---- the numbers: x_0 is the seed, and x_(k+1) is (75 x_k + 74) mod 65,537

unfoldable pub number_at : ℕ → ℕ → ℕ
number_at seed zero = seed
number_at seed (suc k) = (75 * number_at seed k + 74) % 65537

-- what chooses the arrivals of message k: x_(k+1) mod 16
abbrev pub choice_at : ℕ → ℕ → ℕ
choice_at seed k = number_at seed (k + 1) % 16

-- ---- what is sent

-- the interval of message k, counted from 0: ten in each, from interval 1 on
abbrev pub interval_of : ℕ → ℕ
interval_of k = 1 + k / 10

-- the reading at which it is made: ten spread evenly over each interval
abbrev pub reading_of : ℕ → ℕ
reading_of k = 1000000 + 100000 * interval_of k + 10000 * (k % 10)

-- its payload: k in 8 bytes
abbrev pub payload_of : ℕ → List ℕ
payload_of k = to_be_bytes w64 k

abbrev pub call_of : ℕ → Call
call_of k = Message (reading_of k) (payload_of k)

-- the sender's log of the first k messages: all of them, whether they come to the receiver or not
unfoldable pub log_of : ℕ → List Call
log_of k = map call_of (range_with_len 0 k)

-- the bytes of a frame
abbrev pub text_of : {E : Type 0} → Result Frame E → List ℕ
text_of (Ok frame) = frame_text frame
text_of (Err refusal) = []

-- the frame of message k
unfoldable pub message_text : Stream → ℕ → List ℕ
message_text stream k = text_of (made_message stream (log_of k) (reading_of k) (payload_of k))

-- the frame of message k - 30, where there is one
abbrev pub text_before : Stream → ℕ → Option (List ℕ)
text_before stream k = if nat_lt k 30 then None else Some (message_text stream (k - 30))

-- the middle of the interval in which the last key of a chain of delay 5 is due
abbrev pub end_reading : ℕ → ℕ
end_reading last = 1000000 + 100000 * (last + 5) + 50000

-- the disclosure after all messages
unfoldable pub disclosure_text : Stream → ℕ → List ℕ
disclosure_text stream count = text_of (made_disclosure stream (log_of count) (end_reading stream.setup.times.last))

-- ---- what comes to the receiver

-- the byte at that place altered by exclusive or with 1
abbrev pub altered : ℕ → List ℕ → List ℕ
altered offset text = slice_set text offset (bit_xor (slice_index text offset) 1)

-- the same, where there is such a place
abbrev pub altered_at : Option ℕ → List ℕ → List ℕ
altered_at None text = text
altered_at (Some offset) text = altered offset text

-- which byte is altered: the payload's first, the version, the stream's last, or the first of a key
abbrev pub offset_chosen : ℕ → ℕ → Option ℕ
offset_chosen choice k =
    if choice == 3 then Some 22
    else if choice == 4 then Some 4
    else if choice == 5 then Some 13
    else if choice == 8 && nat_le 3 (interval_of k) then Some 48
    else None

-- when it comes: late, or early, or as it was made
abbrev pub reading_chosen : ℕ → ℕ → ℕ
reading_chosen choice k =
    if choice == 6 then reading_of k + 700000
    else if choice == 7 then reading_of k + 200000
    else if choice == 9 then reading_of k - 400000
    else reading_of k

-- the arrival of a frame, where there is one
abbrev pub arrival_of : ℕ → Option (List ℕ) → List Record
arrival_of reading None = []
arrival_of reading (Some text) = Arrives reading text ∷ []

-- what comes behind it: the frame once more, or an earlier one
abbrev pub others_chosen : ℕ → ℕ → List ℕ → Option (List ℕ) → List Record
others_chosen choice k text before =
    if choice == 2 then arrival_of (reading_of k) (Some text)
    else if choice == 14 then arrival_of (reading_of k) before
    else []

-- the arrivals for message k, whose frame is `text`: none where it is lost
abbrev pub arrivals_chosen : ℕ → ℕ → List ℕ → Option (List ℕ) → List Record
arrivals_chosen choice k text before =
    if nat_lt choice 2 then []
    else Arrives (reading_chosen choice k) (altered_at (offset_chosen choice k) text) ∷ others_chosen choice k text before

-- the records of message k: its arrivals, and one take
abbrev pub records_of : Stream → ℕ → ℕ → List Record
records_of stream seed k = arrivals_chosen (choice_at seed k) k (message_text stream k) (text_before stream k) ++ Takes ∷ []

-- the records of the first k messages
unfoldable pub records_to : Stream → ℕ → ℕ → List Record
records_to stream seed k = flat_map (records_of stream seed) (range_with_len 0 k)

-- the load: the records of all messages, and the arrival of the disclosure
abbrev pub load : Stream → ℕ → ℕ → List Record
load stream seed count = records_to stream seed count ++ Arrives (end_reading stream.setup.times.last) (disclosure_text stream count) ∷ []
