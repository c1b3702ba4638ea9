mod AtTape
mod Stated
