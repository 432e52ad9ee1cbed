mod Edges
mod Writing
