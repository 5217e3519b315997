mod Classes
mod Frames
mod TextSequences
mod Levels
mod Rows
mod WorkedHeap
