-- The frame that a view shows.
use Rattle.tesla_frame.specs.Frame as frames
use Rattle.tesla_frame.specs.declared.view.FrameView.{FrameView}
use Rattle.tesla_frame.specs.declared.view.FrameView.TheVariants.{Data, Disclosure}

abbrev pub shown : FrameView → frames.Frame
shown (Data view) = frames.Data view
shown (Disclosure view) = frames.Disclosure view
